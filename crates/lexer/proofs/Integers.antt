-- An integer read on from the place i of a message, in the code's steps: a run of digits, then its sign.
use Prim.Native.Nat.{ℕ, suc, ◌+◌, ◌*◌, ◌-◌, ◌^◌, ◌≤◌, ◌<◌}
use Prim.Native.Char.{code}
use mathlib.Core.Path.{◌≡◌, refl}
use mathlib.Core.Bool.{Bool, true, false}
use mathlib.Core.List.{List, [], ◌∷◌}
use native.Mathlib.Nat.{min-eq_left}
use native.Mathlib.Omega.{arith}
use lib.ListN.{length, drop, get_or, drop_of_length-le}
use borrow.Author.Tests.{lt-ltb}
use Rattle.std.specs.Prelude.{Result, Ok, Err}
use Rattle.format.specs.Bits.{to_bits}
use Rattle.format.specs.Byte as B
use Rattle.format.specs.Byte.{has_class}
use Rattle.format.specs.Lex.{in_range, digits}
use Rattle.lexer.specs.declared.integer.Begun.{Begun}
use Rattle.lexer.specs.declared.integer.Digits.{Digits}
use Rattle.lexer.specs.declared.integer.Integer.{Integer}
use Rattle.lexer.specs.declared.integer.NoInteger.{NoInteger}
use Rattle.lexer.specs.declared.integer.NoInteger.TheVariants.{Stray, Ended}
use Rattle.lexer.specs.Integer.{magnitude_cap, with_sign, value_after, ran_from, digits_after, integer_from}
use Rattle.lexer.specs.Digits.{small, digits_from, signed_from}
use Rattle.lexer.proofs.Bytes.{byte_at}
use Rattle.lexer.proofs.Signs.{signed-run}

-- a byte more before the place, and one fewer after it
ran_shift : (negative : Bool) (p last v k : ℕ) (r : List ℕ) → ran_from negative (p + 1) last (digits v k r) ≡ ran_from negative p last (digits v (suc k) r)
unfolding ran_from digits
ran_shift negative p last v k [] = refl
ran_shift negative p last v k (c ∷ r) = cases (has_class B.digit c) refl (ran_shift negative p last (v * 10 + (c - code "0")) (suc k) r)
  where
    cases : (b : Bool) → has_class B.digit c ≡ b
        → ran_from negative (p + 1) last (digits (v * 10 + (c - code "0")) (suc k) r) ≡ ran_from negative p last (digits (v * 10 + (c - code "0")) (suc (suc k)) r)
        → ran_from negative (p + 1) last (digits v k (c ∷ r)) ≡ ran_from negative p last (digits v (suc k) (c ∷ r))
    cases true e h = rw (e, digits) h
    cases false e h = let n : (p + 1) + k ≡ p + suc k = omega arith in rw (e, digits, n)

module _ (message : List ℕ) (i : ℕ) where
  -- digits read as a run, and then signed
  pub long-run : (negative : Bool) (v : ℕ) {d : Result Digits ℕ} {z : Result Integer NoInteger} → d ≡ digits_from v i (drop i message) → z ≡ signed_from negative d → z ≡ integer_from (Begun.Digits negative v) i (drop i message)
  unfolding integer_from digits_after digits_from
  long-run negative v f g = rw (g, f) (signed-run _ _ _ _)

  -- digits with no sign before them, worth so little that they are in range: what one byte does
  module _ (v : ℕ) where
    pub short-ends : length message ≤ i → v ≤ small → Err (Ended (Begun.Digits false v)) ≡ integer_from (Begun.Digits false v) i (drop i message)
    unfolding integer_from digits_after ran_from digits value_after
    short-ends h g = let exact : v ≤ magnitude_cap = omega arith in rw (drop_of_length-le message h, min-eq_left exact) refl

    module _ (h : i < length message) where
      pub short-stops : has_class B.digit (get_or message i 0) ≡ false → v ≤ small → Ok (record { bits = v; end = record { 0 = i } }) ≡ integer_from (Begun.Digits false v) i (drop i message)
      unfolding integer_from digits_after ran_from digits with_sign in_range to_bits
      short-stops e g =
          let here : i + 0 ≡ i = omega arith in
          let within : v < 2 ^ 63 = omega arith in
          rw (byte_at message i h, e, digits, here, lt-ltb _ _ within) refl

      pub short-passes : has_class B.digit (get_or message i 0) ≡ true
          → integer_from (Begun.Digits false (v * 10 + (get_or message i 0 - 48))) (i + 1) (drop (i + 1) message) ≡ integer_from (Begun.Digits false v) i (drop i message)
      unfolding integer_from digits_after digits value_after
      short-passes e = rw (byte_at message i h, e, digits, value_after) (ran_shift false i _ (v * 10 + (get_or message i 0 - 48)) 0 (drop (i + 1) message))

  module _ {begun : Begun} (e : begun ≡ Begun.Minus) where
    pub ends : length message ≤ i → integer_from begun i (drop i message) ≡ Err (Ended Begun.Minus)
    unfolding integer_from
    ends h = rw (e, drop_of_length-le message h)

    module _ (h : i < length message) where
      pub strays : has_class B.digit (get_or message i 0) ≡ false → integer_from begun i (drop i message) ≡ Err (Stray (record { 0 = i }))
      unfolding integer_from
      strays f = rw (e, byte_at message i h, f)

      -- the digits are read one byte further on, which their count makes up for
      pub minus-on : has_class B.digit (get_or message i 0) ≡ true → {z : Result Integer NoInteger} → z ≡ integer_from (Begun.Digits true (get_or message i 0 - 48)) (i + 1) (drop (i + 1) message)
          → z ≡ integer_from begun i (drop i message)
      unfolding integer_from digits_after
      minus-on c f = rw (e, byte_at message i h, c, f) (ran_shift _ _ _ _ _ _)
