-- The two halves of reading an integer: a run of digits, and the integer that it comes to.
use Rattle.std.specs.Prelude.{ℕ, ◌+◌, min, Bool, cond, List, Result, Ok, Err}
use Rattle.format.specs.Bits.{to_bits}
use Rattle.format.specs.Lex as L
use Rattle.format.specs.Lex.{in_range, digits}
use Rattle.lexer.specs.declared.integer.Begun.TheVariants as Begun
use Rattle.lexer.specs.declared.integer.Digits.{Digits}
use Rattle.lexer.specs.declared.integer.Integer.{Integer}
use Rattle.lexer.specs.declared.integer.NoInteger.{NoInteger}
use Rattle.lexer.specs.declared.integer.NoInteger.TheVariants.{OutOfRange, Ended}
use Rattle.lexer.specs.Integer.{magnitude_cap, with_sign, value_after}

-- a value that no digit more brings near the largest magnitude
abbrev pub small : ℕ
small = 2000000000

-- a run of digits from p on, its value at most the cap; at the slice's end they are worth `last`
unfoldable pub digit_run : ℕ → ℕ → L.Digits → Result Digits ℕ
digit_run p last L.unfinished = Err (min last magnitude_cap)
digit_run p last (L.value v k) = Ok (record { value = min v magnitude_cap; end = record { 0 = p + k } })

-- digits from p on, after digits worth v
unfoldable pub digits_from : ℕ → ℕ → List ℕ → Result Digits ℕ
digits_from v p r = digit_run p (value_after v r) (digits v 0 r)

-- with its sign; out of range past the largest magnitude
unfoldable pub signed_from : Bool → Result Digits ℕ → Result Integer NoInteger
signed_from negative (Err v) = Err (Ended (Begun.Digits negative v))
signed_from negative (Ok d) = cond (in_range (with_sign negative d.value)) (Ok (record { bits = to_bits 64 (with_sign negative d.value); end = d.end })) (Err OutOfRange)
