-- The classes that code tests by comparisons, for every byte.
use Prim.Native.Nat.{ℕ, ◌<◌}
use mathlib.Core.Path.{◌≡◌, refl}
use mathlib.Core.Bool.{Bool, ◌||◌, ◌&&◌, not}
use lib.Dec.{eqb, leb}
use Rattle.std.proofs.lemmas.Bool.{agree_below_at}
use Rattle.format.specs.Byte as B
use Rattle.format.specs.Byte.{class_of, class_in, specials, has_class}

pub white_bytes : (b : ℕ) → b < 256 → has_class B.white b ≡ eqb b 32 || eqb b 10 || eqb b 9 || eqb b 13
unfolding has_class class_of class_in specials
white_bytes b h = agree_below_at (has_class B.white) (λ k. eqb k 32 || eqb k 10 || eqb k 9 || eqb k 13) 256 b refl h

pub digit_bytes : (b : ℕ) → b < 256 → has_class B.digit b ≡ leb 48 b && leb b 57
unfolding has_class class_of class_in specials
digit_bytes b h = agree_below_at (has_class B.digit) (λ k. leb 48 k && leb k 57) 256 b refl h

pub minus_bytes : (b : ℕ) → b < 256 → has_class B.minus b ≡ eqb b 45
unfolding has_class class_of class_in specials
minus_bytes b h = agree_below_at (has_class B.minus) (λ k. eqb k 45) 256 b refl h

-- the operators, the quotes and the comma, in the order of their bytes
abbrev operator : ℕ → Bool
operator b = leb 34 b && leb b 39 || leb 44 b && leb b 45 || eqb b 62 || eqb b 96 || eqb b 123 || leb 125 b && leb b 126

pub operator_bytes : (b : ℕ) → b < 256 → not (has_class B.white b || has_class B.digit b || has_class B.register b) ≡ operator b
unfolding has_class class_of class_in specials
operator_bytes b h = agree_below_at (λ k. not (has_class B.white k || has_class B.digit k || has_class B.register k)) operator 256 b refl h

-- a register's name is none of the others
pub register_bytes : (b : ℕ) → b < 256
    → has_class B.register b ≡ not (has_class B.white b) && not (has_class B.digit b) && not (not (has_class B.white b || has_class B.digit b || has_class B.register b))
unfolding has_class class_of class_in specials
register_bytes b h = agree_below_at (has_class B.register) (λ k. not (has_class B.white k) && not (has_class B.digit k) && not (not (has_class B.white k || has_class B.digit k || has_class B.register k))) 256 b refl h
