-- A rule that holds at every entry of a table, by one test that the checker computes.
use Prim.Native.Nat.{ℕ, ◌<◌}
use mathlib.Core.Path.{◌≡◌, sym, ap, ◌∙◌}
use mathlib.Core.List.{List, map}
use native.Mathlib.Nat.{zero-add}
use lib.ListN.{get_or, get_or-map}
use Rattle.std.specs.List.{range_with_len}
use Rattle.std.proofs.lemmas.List.FromFn.{get_or-map-range_with_len}

-- a table whose entries, told by g, are f of each number below n
pub entry : {A B : Type 0} (g : A → B) (f : ℕ → B) (xs : List A) (n : ℕ) (d : A) → map g xs ≡ map f (range_with_len 0 n) → (k : ℕ) → k < n → g (get_or xs k d) ≡ f k
entry g f xs n d e k h = sym (get_or-map g xs k d) ∙ ap (λ ys. get_or ys k (g d)) e ∙ get_or-map-range_with_len f 0 n k k (g d) h (zero-add k)
