-- A test of numbers and what it shows.
use Prim.Native.Nat.{ℕ}
use mathlib.Core.Path.{◌≡◌}
use mathlib.Core.Bool.{false}
use mathlib.Core.Logic.{inl, inr}
use lib.Dec.{eqb}
use borrow.Author.Tests.{eqb-true}
use Rattle.std.proofs.lemmas.Bool.{cases_Bool}

-- a number is k, or the test says that it is not
pub either : {G : Type 0} (n k : ℕ) → (n ≡ k → G) → (eqb n k ≡ false → G) → G
either n k f g = elim (cases_Bool (eqb n k)) [ inl e ↦ f (eqb-true n k e) | inr e ↦ g e ]
