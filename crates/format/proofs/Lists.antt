-- Laws of lists that the library does not have.
use Prim.Native.Nat.{ℕ, suc, ◌+◌, ◌≤◌}
use mathlib.Core.Path.{◌≡◌, ap, sym, ◌∙◌}
use mathlib.Core.List.{List, ◌∷◌}
use native.Mathlib.Numerals.{add-one}
use native.Mathlib.Omega.{arith}
use lib.ListN.{length, drop, length-drop}
use lib.Seq.{drop-drop, length-take-le}
use Rattle.format.specs.Rows.{span_of}

-- one byte on
pub drop-next : {A : Type 0} (l : List A) (at : ℕ) {c : A} {r : List A} → drop at l ≡ c ∷ r → drop (suc at) l ≡ r
drop-next l at e = rw (← add-one at) (sym (drop-drop 1 at l) ∙ ap (drop 1) e)

-- a span that lies in the slice
pub length-span : (l : List ℕ) (start n : ℕ) → start + n ≤ length l → length (span_of l start n) ≡ n
length-span l start n h = length-take-le n (drop start l) (omega (arith, length-drop start l))
