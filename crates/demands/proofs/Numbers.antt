-- The numbers of refusals: none is 0, and no two are the same.
use Prim.Native.Nat.{ℕ, ◌-◌, ◌≤◌}
use mathlib.Core.Path.{◌≡◌, refl, ap, sym, ◌∙◌}
use mathlib.Core.List.{List, [], ◌∷◌}
use native.Mathlib.Omega.{arith}
use lib.ListN.{get_or}
use Rattle.format.specs.Number.{number_of}
use Rattle.format.specs.declared.refusal.Refusal.{Refusal}
use Rattle.format.specs.declared.refusal.Refusal.TheVariants.{OverBound, ShortTable, Cut, Stray, OutOfRange, TooFew, WrongKind, Negative, EmptyRegister, Unbalanced, DepthNotOne, NoRows, NoStack, NoMarks, TooLong, Unsound, UnderMark, NoBlock, Uneven, NoWord}

pub at_least_1 : (r : Refusal) → 1 ≤ number_of r
at_least_1 OverBound = omega arith
at_least_1 _ = omega arith

-- the refusals in their order
unfoldable refusals : List Refusal
refusals = OverBound ∷ ShortTable ∷ Cut ∷ Stray ∷ OutOfRange ∷ TooFew ∷ WrongKind ∷ Negative ∷ EmptyRegister ∷ Unbalanced ∷ DepthNotOne ∷ NoRows ∷ NoStack ∷ NoMarks ∷ TooLong ∷ Unsound ∷ UnderMark ∷ NoBlock ∷ Uneven ∷ NoWord ∷ []

-- the refusal that a number stands for
unfoldable refusal_of : ℕ → Refusal
refusal_of n = get_or refusals (n - 1) OverBound

of_number : (r : Refusal) → refusal_of (number_of r) ≡ r
unfolding refusal_of refusals
of_number OverBound = refl
of_number _ = refl

pub same_refusal : (r s : Refusal) → number_of r ≡ number_of s → r ≡ s
same_refusal r s e = sym (of_number r) ∙ ap refusal_of e ∙ of_number s
