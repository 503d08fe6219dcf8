-- What single items do to a run without limits, over any notion of value.
use Prim.Native.Nat.{ℕ, suc, ◌+◌, ◌-◌, ◌≤◌}
use mathlib.Core.Path.{◌≡◌, ap, ◌∙◌}
use mathlib.Core.List.{List, [], ◌∷◌, ◌++◌, reverse}
use native.Mathlib.Nat.{add-zero}
use native.Mathlib.Omega.{arith}
use lib.ListN.{length, length-append}
use lib.Seq.{take-append_seam, drop-append_seam}
use borrow.Author.Tests.{le-ltb}
use Rattle.format.specs.Machine.{Values, Machine, Step, go, tuple, base, fresh, pop, close_tuple, run_free_from}

module _ (𝒱 : Values) where
  -- the bytes of an item already done are passed
  pub free-skip : (xs r : List ℕ) (at : ℕ) (m : Machine 𝒱) → run_free_from 𝒱 (xs ++ r) (length xs) at m ≡ run_free_from 𝒱 r 0 (at + length xs) m
  unfolding run_free_from
  free-skip [] r at m = rw add-zero
  free-skip (x ∷ xs) r at m = free-skip xs r (suc at) m ∙ ap (λ (n : ℕ). run_free_from 𝒱 r 0 n m) (omega arith)

  -- a pop that finds a value above the mark
  pub pop_ok : (at : ℕ) (marks : List ℕ) (v : 𝒱.Value) (st : List 𝒱.Value) (next : 𝒱.Value → List 𝒱.Value → Step 𝒱) → base marks ≤ length st
      → pop 𝒱 at marks (v ∷ st) next ≡ next v st
  unfolding pop
  pop_ok at marks v st next h = rw (le-ltb (length st) (base marks) h, pop)

  -- a `}` that finds its mark: `top` lies above it
  pub close_ok : (at : ℕ) (m : Machine 𝒱) (marks : List ℕ) (top under : List 𝒱.Value) → m.stack ≡ top ++ under
      → close_tuple 𝒱 at m (length under ∷ marks) ≡ go 0 (suc (length top)) (fresh 𝒱 at (tuple (reverse top)) under marks m)
  unfolding close_tuple
  close_ok at m marks top under e =
      let n : length m.stack ≡ length top + length under = ap length e ∙ length-append top under in
      let k : length m.stack - length under ≡ length top = omega arith in
      rw (le-ltb (length m.stack) (length under) (omega arith), close_tuple) (rw (k, e) (rw (take-append_seam, drop-append_seam)))
