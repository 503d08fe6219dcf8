-- The machine within limits, and the bytes of an item already done.
use Prim.Native.Nat.{ℕ, zero, suc, ◌+◌, ◌≤◌}
use mathlib.Core.Path.{◌≡◌, refl}
use mathlib.Core.List.{List, [], ◌∷◌}
use native.Mathlib.Nat.{add-zero}
use native.Mathlib.Omega.{arith}
use lib.ListN.{length, drop}
use Rattle.format.specs.Machine.{Machine, Limits, run_from}
use Rattle.format.specs.Rows.{row_values}

-- the machine within limits
pub record Within (lim : Limits) (used : ℕ) (m : Machine row_values) : Type 0 where
  pub rows : used ≤ lim.rows
  pub stack : length m.stack ≤ lim.stack
  pub marks : length m.marks ≤ lim.marks

module _ (lim : Limits) where
  -- the bytes of an item already done are passed
  pub skipped : (k : ℕ) (r : List ℕ) (at used : ℕ) (m : Machine row_values) → k ≤ length r → run_from row_values lim r k at used m ≡ run_from row_values lim (drop k r) 0 (at + k) used m
  unfolding run_from
  skipped zero r at used m h = rw add-zero refl
  skipped (suc k) [] at used m h = absurd (omega arith)
  skipped (suc k) (c ∷ r) at used m h =
      let e : suc at + k ≡ at + suc k = omega arith in
      rw (← e) (skipped k r (suc at) used m (omega arith))
