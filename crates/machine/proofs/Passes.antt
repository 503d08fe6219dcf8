-- Items that make no row, and how far the slice reaches after an item's first byte.
use Prim.Native.Nat.{ℕ, suc, ◌+◌, ◌≤◌, ◌<◌, min}
use mathlib.Core.Path.{◌≡◌, refl, sym, ◌∙◌}
use mathlib.Core.List.{List}
use native.Mathlib.Omega.{arith}
use lib.ListN.{length}
use Rattle.format.specs.Bound.{stack_bound, mark_bound}
use Rattle.format.specs.Machine.{Machine, go}
use Rattle.format.specs.Rows.{row_values, rows_of}
use Rattle.format.specs.Answer.{Tables, rows_in}
use Rattle.machine.specs.Held.{State}
use Rattle.machine.specs.Held.{Ready, goes, machine_of, going, past, limited}
use Rattle.table.proofs.Rows.{length-last_first}
use Rattle.machine.proofs.Limits.{room_for}
use lib.ListN.{drop, length-drop}

module _ (t : Tables) (s : State) (h : Ready t s) where
  -- an item that makes no row and leaves so many values and marks, within their room
  pub no_row : (k : ℕ) (stack marks : List ℕ) (registers : ℕ → _) {depth noted : ℕ} → length stack ≡ depth → length marks ≡ noted
      → depth ≤ min (length t.stack) stack_bound → noted ≤ min (length t.marks) mark_bound
      → limited t s (go k 0 (record { stack = stack; marks = marks; registers = registers; memory = (machine_of t s).memory }))
      ≡ goes (suc s.at.0 + k) s.next.0 stack marks registers (rows_in t.rows (rows_of s.next.0 t.rows)) (past t s.next.0 depth noted)
  unfolding machine_of
  no_row k stack marks registers d n g f =
      let m : Machine row_values = record { stack = stack; marks = marks; registers = registers; memory = rows_of s.next.0 t.rows } in
      let used : s.next.0 + 0 ≡ s.next.0 = omega arith in
      room_for t s k 0 m d n (omega (arith, h.used)) g f ∙ rw used refl

  -- nothing but the place changes
  pub passes : (k end : ℕ) → end ≡ suc s.at.0 + k
      → going (record { at = record { 0 = end }; next = s.next; depth = s.depth; marks = s.marks }) t ≡ limited t s (go k 0 (machine_of t s))
  unfolding going machine_of
  passes k end e = rw e (sym (no_row k _ _ _ (length-last_first t.stack s.depth.0) (length-last_first t.marks s.marks) h.depth h.noted))

-- the bytes after an item's first reach to the slice's end
pub rest-ends : (at : ℕ) (message : List ℕ) → at < length message → length message ≡ suc at + length (drop (at + 1) message)
rest-ends at message h = omega (arith, length-drop (at + 1) message)
