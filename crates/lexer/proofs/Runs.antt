-- A run of digits read from `start` on: what one byte does, at the place i of a message, after digits worth v.
use Prim.Native.Nat.{ℕ, ◌+◌, ◌*◌, ◌-◌, ◌≤◌, ◌<◌, min}
use mathlib.Core.Path.{◌≡◌}
use mathlib.Core.Bool.{true, false}
use mathlib.Core.List.{List}
use native.Mathlib.Omega.{arith}
use lib.ListN.{length, drop, get_or, drop_of_length-le}
use Rattle.std.specs.Prelude.{Result, Ok, Err}
use Rattle.format.specs.Byte as B
use Rattle.format.specs.Byte.{has_class}
use Rattle.format.specs.Lex.{digits}
use Rattle.lexer.specs.declared.integer.Digits.{Digits}
use Rattle.lexer.specs.Integer.{magnitude_cap, value_after}
use Rattle.lexer.specs.Digits.{digit_run, digits_from}
use Rattle.lexer.proofs.Bytes.{byte_at, next-count}

module _ (message : List ℕ) (start : ℕ) where
  -- what the run comes to from i on, after digits worth v
  abbrev run : ℕ → ℕ → Result Digits ℕ
  run v i = digit_run start (value_after v (drop i message)) (digits v (i - start) (drop i message))

  -- digits worth v are read before `start` and more of them up to i: the code's value is the exact one, at most the cap
  pub record Reading (v i value : ℕ) : Type 0 where
    pub exact : ℕ
    pub same : value ≡ min exact magnitude_cap
    pub past : start ≤ i
    pub left : run exact i ≡ digits_from v start (drop start message)

  pub begins : (v value : ℕ) → value ≡ min v magnitude_cap → Reading v start value
  unfolding digits_from
  begins v value e = let z : start - start ≡ 0 = omega arith in record { exact = v; same = e; past = omega arith; left = rw z }

  module _ {v i value : ℕ} (r : Reading v i value) where
    pub ends : length message ≤ i → Err value ≡ digits_from v start (drop start message)
    unfolding digits value_after digit_run
    ends h = rw r.same (rw (drop_of_length-le message h) at r.left)

    module _ (h : i < length message) where
      pub stops : has_class B.digit (get_or message i 0) ≡ false → Ok (record { value = value; end = record { 0 = i } }) ≡ digits_from v start (drop start message)
      unfolding digits digit_run
      stops e = let n : start + (i - start) ≡ i = omega (arith, r.past) in rw r.same (rw (byte_at message i h, e, digits, n) at r.left)

      pub passes : has_class B.digit (get_or message i 0) ≡ true → {shifted : ℕ} → shifted ≡ min (value * 10 + (get_or message i 0 - 48)) magnitude_cap
          → Reading v (i + 1) shifted
      unfolding digits value_after
      passes e f = record {
        exact = r.exact * 10 + (get_or message i 0 - 48);
        same = omega (arith, r.same);
        past = omega (arith, r.past);
        left = rw (next-count start i r.past) (rw (byte_at message i h, e, digits, value_after) at r.left);
      }
