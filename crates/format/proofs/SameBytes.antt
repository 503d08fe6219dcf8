-- What the test of bytes shows: it passes exactly where two texts are the same.
use Prim.Native.Nat.{ℕ}
use mathlib.Core.Path.{◌≡◌, refl}
use mathlib.Core.Bool.{true}
use mathlib.Core.List.{List, [], ◌∷◌}
use native.Mathlib.Omega.{arith}
use borrow.Author.Tests.{eq-eqb, eqb-true}
use Rattle.format.specs.Byte.{same_bytes}

pub same_bytes_lem : (x y : List ℕ) → same_bytes x y ≡ true → x ≡ y
unfolding same_bytes
same_bytes_lem [] [] e = refl
same_bytes_lem [] (b ∷ y) e = cc
same_bytes_lem (a ∷ x) [] e = cc
same_bytes_lem (a ∷ x) (b ∷ y) e = grind (arith, same_bytes_lem x y, eqb-true a b)

pub same_refl : (x : List ℕ) → same_bytes x x ≡ true
unfolding same_bytes
same_refl [] = refl
same_refl (a ∷ x) = rw (eq-eqb a a refl) (same_refl x)
