-- `#` and `&`, and what they ask of the rows on the stack.
use Prim.Native.Nat.{ℕ, ◌+◌, ◌-◌, ◌≤◌, ◌<◌}
use mathlib.Core.Path.{◌≡◌, refl, sym, ◌∙◌}
use mathlib.Core.Bool.{Bool, true, false}
use mathlib.Core.List.{List}
use native.Mathlib.Omega.{arith}
use lib.ListN.{get_or}
use lib.Dec.{leb}
use borrow.Author.Tests.{leb-true, leb-false}
use Rattle.format.specs.Lex.{hash_item, ampersand_item}
use Rattle.format.specs.Machine as M
use Rattle.format.specs.Machine.{base, step}
use Rattle.format.specs.Rows.{row, row_values, is_list_kind, make_rows, add, nil_kind, cons_kind, nil_row, cons_row}
use Rattle.format.specs.Answer.{Tables, tables}
use Rattle.table.specs.Words.{row_in, last_first}
use Rattle.machine.specs.Held.{State}
use Rattle.machine.specs.Held.{Ready, stops, machine_of, limited, taken, with_row, made}
use Rattle.machine.proofs.Limits.{refused-step}
use Rattle.machine.proofs.Pops.{pop-few, pop-top, held-row}

-- `#`
pub nil-made : (t : Tables) (s : State) (r : List ℕ) → made t s s.depth.0 0 (row nil_kind 0 0 0) ≡ taken t s r hash_item
unfolding taken step made machine_of M.fresh make_rows add with_row nil_row
nil-made t s r = refl

-- `&`
module _ (rows stack marks registers : List ℕ) (s : State) (r : List ℕ) where
  pub cons-few : s.depth.0 ≤ base (last_first marks s.marks) + 1 → taken (tables rows stack marks registers) s r ampersand_item ≡ stops 6 s.at.0 (tables rows stack marks registers)
  unfolding taken step machine_of
  cons-few h = by (leb s.depth.0 (base (last_first marks s.marks))) refl
    where
      by : (q : Bool) → leb s.depth.0 (base (last_first marks s.marks)) ≡ q → taken (tables rows stack marks registers) s r ampersand_item ≡ stops 6 s.at.0 (tables rows stack marks registers)
      by true e =
          rw (pop-few s.at.0 (last_first marks s.marks) stack _ s.depth.0 (leb-true _ _ e))
          (refused-step (tables rows stack marks registers) s 6 s.at.0)
      by false e =
          rw (pop-top s.at.0 (last_first marks s.marks) stack _ s.depth.0 (leb-false _ _ e), pop-few s.at.0 (last_first marks s.marks) stack _ (s.depth.0 - 1) (omega arith))
          (refused-step (tables rows stack marks registers) s 6 s.at.0)

  module _ (h : Ready (tables rows stack marks registers) s) (g : base (last_first marks s.marks) + 1 < s.depth.0) (v l : ℕ)
      (e : v ≡ get_or stack (s.depth.0 - 1) 0) (f : l ≡ get_or stack (s.depth.0 - 1 - 1) 0) where
    cons-popped : taken (tables rows stack marks registers) s r ampersand_item
        ≡ limited (tables rows stack marks registers) s (M.cons_list row_values s.at.0 (machine_of (tables rows stack marks registers) s) v l (last_first stack (s.depth.0 - 1 - 1)))
    unfolding taken step machine_of
    cons-popped =
        rw (pop-top s.at.0 (last_first marks s.marks) stack _ s.depth.0 (omega arith), pop-top s.at.0 (last_first marks s.marks) stack _ (s.depth.0 - 1) (omega arith), ← e, ← f) refl

    pub cons_7 : is_list_kind (row_in rows l).kind ≡ false → taken (tables rows stack marks registers) s r ampersand_item ≡ stops 7 s.at.0 (tables rows stack marks registers)
    unfolding M.cons_list machine_of
    cons_7 q = cons-popped ∙ rw (held-row (tables rows stack marks registers) s h (s.depth.0 - 1 - 1) (omega arith) l f, q) (refused-step (tables rows stack marks registers) s 7 s.at.0)

    pub cons-made : is_list_kind (row_in rows l).kind ≡ true → made (tables rows stack marks registers) s (s.depth.0 - 2) 0 (row cons_kind v l 0) ≡ taken (tables rows stack marks registers) s r ampersand_item
    unfolding M.cons_list machine_of made M.fresh make_rows add with_row cons_row
    cons-made q =
        let less : s.depth.0 - 1 - 1 ≡ s.depth.0 - 2 = omega arith in
        sym (cons-popped ∙ rw (held-row (tables rows stack marks registers) s h (s.depth.0 - 1 - 1) (omega arith) l f, q, less) refl)
