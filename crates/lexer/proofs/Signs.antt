-- The integer that digits come to, at each of the code's tests of their value.
use Prim.Native.Nat.{ℕ, zero, suc, ◌+◌, ◌-◌, ◌^◌, ◌≤◌, ◌<◌}
use mathlib.Core.Path.{◌≡◌, refl}
use mathlib.Core.Bool.{Bool, true, false}
use native.Mathlib.Nat.{le_refl, min-eq_left, min-eq_right}
use native.Mathlib.Omega.{arith}
use lib.IntN.{neg_ℤ, pos}
use lib.Dec.{leb}
use borrow.Author.Tests.{lt-ltb, le-ltb, leb-true, leb-false}
use Rattle.std.specs.Prelude.{Result, Ok, Err}
use Rattle.format.specs.Bits.{to_bits}
use Rattle.format.specs.Lex as L
use Rattle.format.specs.Lex.{in_range}
use Rattle.format.specs.declared.Offset.{Offset}
use Rattle.lexer.specs.declared.integer.Digits.{Digits}
use Rattle.lexer.specs.declared.integer.NoInteger.TheVariants.{OutOfRange}
use Rattle.lexer.specs.Integer.{magnitude_cap, with_sign, ran_from}
use Rattle.lexer.specs.Digits.{digit_run, signed_from}

-- the largest magnitude, of the least integer
abbrev largest : ℕ
largest = 2 ^ 63

-- a minus before a value
minus_range : (v : ℕ) → v ≤ largest → in_range (neg_ℤ (pos v)) ≡ true
unfolding in_range
minus_range zero h = refl
minus_range (suc n) h = lt-ltb n largest (omega arith)

minus-over : (v : ℕ) → largest < v → in_range (neg_ℤ (pos v)) ≡ false
unfolding in_range
minus-over zero h = absurd (omega arith)
minus-over (suc n) h = le-ltb n largest (omega arith)

minus_bits : (v : ℕ) → v ≤ largest → (v ≡ 0 → ⊥) → to_bits 64 (neg_ℤ (pos v)) ≡ ((2 ^ 64 - 1) - v) + 1
unfolding to_bits
minus_bits zero h n = absurd (n refl)
minus_bits (suc v) h n = omega arith

module _ {negative : Bool} {d : Result Digits ℕ} {v : ℕ} {end : Offset} (e : d ≡ Ok (record { value = v; end = end })) where
  pub minus-large : negative ≡ true → largest < v → signed_from negative d ≡ Err OutOfRange
  unfolding signed_from with_sign
  minus-large s h = rw (e, s, minus-over v h)

  pub minus-zero : negative ≡ true → v ≡ 0 → signed_from negative d ≡ Ok (record { bits = 0; end = end })
  unfolding signed_from with_sign in_range to_bits
  minus-zero s h = rw (e, s, h)

  pub minus : negative ≡ true → v ≤ largest → (v ≡ 0 → ⊥) → signed_from negative d ≡ Ok (record { bits = ((2 ^ 64 - 1) - v) + 1; end = end })
  unfolding signed_from with_sign
  minus s h n = rw (e, s, minus_range v h, minus_bits v h n)

  pub large : negative ≡ false → largest ≤ v → signed_from negative d ≡ Err OutOfRange
  unfolding signed_from with_sign in_range
  large s h = rw (e, s, le-ltb _ _ h)

  pub plain : negative ≡ false → v < largest → signed_from negative d ≡ Ok (record { bits = v; end = end })
  unfolding signed_from with_sign in_range to_bits
  plain s h = rw (e, s, lt-ltb _ _ h)

over : (negative : Bool) (v : ℕ) → magnitude_cap ≤ v → in_range (with_sign negative v) ≡ false
unfolding with_sign in_range
over true v h = minus-over v (omega arith)
over false v h = le-ltb v largest (omega arith)

-- what the range test says does not depend on the cap
pub signed-run : (negative : Bool) (p last : ℕ) (d : L.Digits) → signed_from negative (digit_run p last d) ≡ ran_from negative p last d
unfolding signed_from digit_run ran_from
signed-run negative p last L.unfinished = refl
signed-run negative p last (L.value v k) = cases (leb v magnitude_cap) refl
  where
    cases : (b : Bool) → leb v magnitude_cap ≡ b → signed_from negative (digit_run p last (L.value v k)) ≡ ran_from negative p last (L.value v k)
    cases true e = rw (min-eq_left (leb-true v magnitude_cap e))
    cases false e =
        let h : magnitude_cap ≤ v = omega (arith, leb-false v magnitude_cap e) in
        rw (min-eq_right h, over negative magnitude_cap (le_refl magnitude_cap), over negative v h)
