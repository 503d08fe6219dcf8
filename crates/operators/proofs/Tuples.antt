-- `}`: a tuple of all values above the mark.
use Prim.Native.Nat.{ℕ, zero, suc, ◌+◌, ◌-◌, ◌≤◌, ◌<◌, min}
use mathlib.Core.Path.{◌≡◌, refl, sym, ◌∙◌}
use mathlib.Core.List.{List, ◌∷◌, ◌++◌, reverse}
use native.Mathlib.Nat.{not-suc-le-zero}
use native.Mathlib.Numerals.{add-one, sub-one}
use native.Mathlib.Omega.{arith}
use lib.ListN.{length, set, take, drop}
use lib.Seq.{length-take-le, drop-set-lt}
use borrow.Author.Tests.{lt-ltb, le-ltb}
use Rattle.format.specs.Bound.{stack_bound}
use Rattle.format.specs.Lex.{close_item}
use Rattle.format.specs.Machine as M
use Rattle.format.specs.Machine.{Machine, refuse, go, base, step}
use Rattle.format.specs.Rows.{Row, row_values, row_room, rows_of, make_rows}
use Rattle.table.specs.Words.{last_first, between, tuple_rows, stored_rows}
use Rattle.machine.specs.Held.{State}
use Rattle.format.specs.Answer.{tables}
use Rattle.machine.specs.Held.{Ready, stops, register_in, machine_of, going, taken}
use Rattle.format.proofs.TableRows.{length-rows}
use Rattle.table.proofs.Rows.{pushed, length-last_first, drop-last_first, tuple-rows}
use Rattle.table.proofs.Cleared.{stored_past}
use Rattle.table.proofs.Tuple.{length-tuple}
use Rattle.machine.proofs.Limits.{stored, refused-step, no_rows, no_stack, room_for}

-- with no mark noted
unmarked : (at : ℕ) (m : Machine row_values) (marks : List ℕ) (noted : ℕ) → noted ≡ 0 → M.close_tuple row_values at m (last_first marks noted) ≡ refuse 10 at
unfolding last_first M.close_tuple
unmarked at m marks noted e = rw e refl

-- with one: its depth is the base
module _ (at : ℕ) (m : Machine row_values) (marks : List ℕ) (low : ℕ) where
  under : (noted : ℕ) → 0 < noted → low ≡ base (last_first marks noted) → length m.stack < low → M.close_tuple row_values at m (last_first marks noted) ≡ refuse 17 at
  unfolding last_first M.close_tuple base
  under zero h e g = absurd (not-suc-le-zero h)
  under (suc n) h e g = rw (← e, lt-ltb (length m.stack) low g) refl

  above : (noted : ℕ) → 0 < noted → low ≡ base (last_first marks noted) → low ≤ length m.stack
      → M.close_tuple row_values at m (last_first marks noted)
      ≡ go 0 (suc (length m.stack - low)) (M.fresh row_values at (M.tuple (reverse (take (length m.stack - low) m.stack))) (drop (length m.stack - low) m.stack) (last_first marks (noted - 1)) m)
  unfolding last_first M.close_tuple base
  above zero h e g = absurd (not-suc-le-zero h)
  above (suc n) h e g = rw (← e, le-ltb (length m.stack) low g, sub-one) refl

module _ (rows stack marks registers : List ℕ) (s : State) (r : List ℕ) where
  pub close_10 : s.marks ≡ 0 → taken (tables rows stack marks registers) s r close_item ≡ stops 10 s.at.0 (tables rows stack marks registers)
  unfolding taken step machine_of
  close_10 e = rw (unmarked s.at.0 _ marks s.marks e) (refused-step (tables rows stack marks registers) s 10 s.at.0)

  module _ (low : ℕ) (some : 0 < s.marks) (e : low ≡ base (last_first marks s.marks)) where
    pub close_17 : s.depth.0 < low → taken (tables rows stack marks registers) s r close_item ≡ stops 17 s.at.0 (tables rows stack marks registers)
    unfolding taken step machine_of
    close_17 h =
        rw (under s.at.0 (machine_of (tables rows stack marks registers) s) marks low s.marks some e (omega (arith, length-last_first stack s.depth.0)))
        (refused-step (tables rows stack marks registers) s 17 s.at.0)

    -- the machine after it
    closed : Machine row_values
    closed = record {
      stack = (s.next.0 + (s.depth.0 - low)) ∷ last_first stack low;
      marks = last_first marks (s.marks - 1);
      registers = register_in registers;
      memory = rows_of s.next.0 rows ++ tuple_rows s.next.0 (between stack low s.depth.0);
    }

    close_step : low ≤ s.depth.0 → step row_values s.at.0 r (machine_of (tables rows stack marks registers) s) close_item ≡ go 0 (suc (s.depth.0 - low)) closed
    unfolding step machine_of closed M.fresh make_rows between
    close_step h =
        let deep : length (last_first stack s.depth.0) ≡ s.depth.0 = length-last_first stack s.depth.0 in
        let mem : List Row = rows_of s.next.0 rows in
        let count : length mem ≡ s.next.0 = length-rows s.next.0 rows in
        let under : s.depth.0 - (s.depth.0 - low) ≡ low = omega arith in
        above s.at.0 (machine_of (tables rows stack marks registers) s) marks low s.marks some e (omega arith)
        ∙ rw (deep, tuple-rows mem (take (s.depth.0 - low) (last_first stack s.depth.0)), drop-last_first stack (s.depth.0 - low) s.depth.0 (omega arith), under, count, length-take-le (s.depth.0 - low) (last_first stack s.depth.0) (omega arith)) refl

    module _ (h : low ≤ s.depth.0) where
      pub close_12 : row_room rows ≤ s.next.0 + (s.depth.0 - low) → taken (tables rows stack marks registers) s r close_item ≡ stops 12 s.at.0 (tables rows stack marks registers)
      unfolding taken
      close_12 g = rw (close_step h) (no_rows (tables rows stack marks registers) s 0 (suc (s.depth.0 - low)) closed (omega arith))

      pub close_13 : s.next.0 + (s.depth.0 - low) < row_room rows → min (length stack) stack_bound ≤ low → taken (tables rows stack marks registers) s r close_item ≡ stops 13 s.at.0 (tables rows stack marks registers)
      unfolding taken closed
      close_13 g f =
          rw (close_step h) (no_stack (tables rows stack marks registers) s 0 (suc (s.depth.0 - low)) closed (omega arith) (omega (arith, length-last_first stack low)))

      pub close_goes : Ready (tables rows stack marks registers) s → s.next.0 + (s.depth.0 - low) < row_room rows → low < min (length stack) stack_bound → (last : ℕ) → last ≡ s.next.0 + (s.depth.0 - low)
          → going (record { at = record { 0 = s.at.0 + 1 }; next = record { 0 = last + 1 }; depth = record { 0 = low + 1 }; marks = s.marks - 1 })
          (tables (stored_rows rows s.next.0 (tuple_rows s.next.0 (between stack low s.depth.0))) (set stack low last) marks registers)
          ≡ taken (tables rows stack marks registers) s r close_item
      unfolding taken closed going machine_of
      close_goes ready g f last q =
          let t = tables rows stack marks registers in
          let at : s.at.0 + 1 ≡ suc s.at.0 + 0 = omega arith in
          let used : last + 1 ≡ s.next.0 + suc (s.depth.0 - low) = omega arith in
          let top : last_first (set stack low last) (low + 1) ≡ last ∷ last_first stack low = rw add-one (pushed stack low last (omega arith)) in
          let more : length (tuple_rows s.next.0 (between stack low s.depth.0)) ≡ suc (s.depth.0 - low) = length-tuple rows stack low s.depth.0 s.next.0 in
          let made = tuple_rows s.next.0 (between stack low s.depth.0) in
          let fits : s.next.0 + length made ≤ row_room rows = omega arith in
          let words = stored rows s.next.0 made fits (s.next.0 + suc (s.depth.0 - low)) (omega arith) in
          let kept = rw more at (stored_past rows s.next.0 made fits) in
          let deep : suc (length (last_first stack low)) ≡ low + 1 = omega (arith, length-last_first stack low) in
          let room = room_for t s 0 (suc (s.depth.0 - low)) closed deep (length-last_first marks (s.marks - 1)) (omega arith) (omega arith) (omega (arith, ready.noted)) in
          rw (close_step h, at, used, top, words, kept, drop-set-lt (low + 1) stack low last (omega arith), q)
          (sym room)
