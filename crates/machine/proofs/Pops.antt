-- Pops from the stack that the table holds, and the base that the marks give.
use Prim.Native.Nat.{ℕ, zero, suc, ◌-◌, ◌≤◌, ◌<◌}
use mathlib.Core.Path.{◌≡◌, refl, sym}
use mathlib.Core.List.{List}
use native.Mathlib.Nat.{not-suc-le-zero}
use native.Mathlib.Numerals.{sub-one}
use native.Mathlib.Omega.{arith}
use lib.ListN.{get_or}
use borrow.Author.Tests.{lt-ltb, le-ltb}
use Rattle.format.specs.Machine as M
use Rattle.format.specs.Machine.{Step, refuse, base}
use Rattle.format.specs.Rows.{row_values}
use Rattle.table.specs.Words.{last_first}
use Rattle.table.proofs.Rows.{length-last_first}
use Rattle.format.specs.Answer.{Tables}
use Rattle.format.specs.Rows.{row_at, rows_of}
use Rattle.table.specs.Words.{row_in}
use Rattle.table.proofs.Rows.{row_of}
use Rattle.machine.specs.Held.{State}
use Rattle.machine.specs.Held.{Ready}

module _ (at : ℕ) (marks words : List ℕ) (next : ℕ → List ℕ → Step row_values) where
  -- nothing above the base
  pub pop-few : (depth : ℕ) → depth ≤ base marks → M.pop row_values at marks (last_first words depth) next ≡ refuse 6 at
  unfolding M.pop last_first
  pop-few zero h = refl
  pop-few (suc d) h = rw (length-last_first words d, lt-ltb d (base marks) (omega arith)) refl

  -- the top
  pub pop-top : (depth : ℕ) → base marks < depth → M.pop row_values at marks (last_first words depth) next ≡ next (get_or words (depth - 1) 0) (last_first words (depth - 1))
  unfolding M.pop last_first
  pop-top zero h = absurd (not-suc-le-zero h)
  pop-top (suc d) h = rw (length-last_first words d, le-ltb d (base marks) (omega arith), sub-one) refl

-- the base: 0 with no mark noted, else the mark noted last
pub base-none : (marks : List ℕ) (noted : ℕ) → noted ≡ 0 → 0 ≡ base (last_first marks noted)
unfolding base last_first
base-none marks noted e = rw e refl

pub base-last : (marks : List ℕ) (noted : ℕ) → ¬ (noted ≡ 0) → get_or marks (noted - 1) 0 ≡ base (last_first marks noted)
unfolding base last_first
base-last marks zero h = absurd (h refl)
base-last marks (suc n) h = rw sub-one refl

-- a row on the stack that the machine keeps is the one that the table holds
pub held-row : (t : Tables) (s : State) → Ready t s → (i : ℕ) → i < s.depth.0 → (v : ℕ) → v ≡ get_or t.stack i 0 → row_at (rows_of s.next.0 t.rows) v ≡ row_in t.rows v
held-row t s h i l v e = sym (row_of t.rows s.next.0 v h.used (rw e (h.values i l)))
