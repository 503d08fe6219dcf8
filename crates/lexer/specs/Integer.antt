-- An integer whose first bytes are read.
use Rattle.std.specs.Prelude.{ℕ, ◌+◌, ◌*◌, ◌-◌, ◌^◌, min, Bool, true, false, cond, List, [], ◌∷◌, ℤ, pos, neg_ℤ, Result, Ok, Err}
use Prim.Native.Char.{code}
use Rattle.format.specs.Bits.{to_bits}
use Rattle.format.specs.Byte as B
use Rattle.format.specs.Byte.{has_class}
use Rattle.format.specs.Lex as L
use Rattle.format.specs.Lex.{in_range, digits}
use Rattle.lexer.specs.declared.integer.Begun.{Begun}
use Rattle.lexer.specs.declared.integer.Begun.TheVariants.{Minus, Digits}
use Rattle.lexer.specs.declared.integer.Integer.{Integer}
use Rattle.lexer.specs.declared.integer.NoInteger.{NoInteger}
use Rattle.lexer.specs.declared.integer.NoInteger.TheVariants.{OutOfRange, Stray, Ended}

-- one more than the largest magnitude: it stands for all above it
abbrev pub magnitude_cap : ℕ
magnitude_cap = 2 ^ 63 + 1

-- the integer of a sign and a magnitude
unfoldable pub with_sign : Bool → ℕ → ℤ
with_sign true v = neg_ℤ (pos v)
with_sign false v = pos v

-- the value of digits worth v and of the digits r after them
unfoldable pub value_after : ℕ → List ℕ → ℕ
value_after v [] = v
value_after v (c ∷ r) = value_after (v * 10 + (c - code "0")) r

-- what digits from p on come to; at the slice's end they are worth `last`
unfoldable pub ran_from : Bool → ℕ → ℕ → L.Digits → Result Integer NoInteger
ran_from negative p last L.unfinished = Err (Ended (Digits negative (min last magnitude_cap)))
ran_from negative p last (L.value v k) =
    cond (in_range (with_sign negative v)) (Ok (record { bits = to_bits 64 (with_sign negative v); end = record { 0 = p + k } })) (Err OutOfRange)

-- digits r after k bytes from p on, and after digits worth v
unfoldable pub digits_after : Bool → ℕ → ℕ → ℕ → List ℕ → Result Integer NoInteger
digits_after negative p k v r = ran_from negative p (value_after v r) (digits v k r)

-- after a minus a digit has to come
unfoldable pub integer_from : Begun → ℕ → List ℕ → Result Integer NoInteger
integer_from (Digits negative v) p r = digits_after negative p 0 v r
integer_from Minus p [] = Err (Ended Minus)
integer_from Minus p (c ∷ r) = cond (has_class B.digit c) (digits_after true p 1 (c - code "0") r) (Err (Stray (record { 0 = p })))
