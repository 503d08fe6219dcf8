-- What the limits of the tables make of a step, by the tests that the code makes.
use Prim.Native.Nat.{ℕ, suc, ◌+◌, ◌≤◌, ◌<◌, min}
use mathlib.Core.Path.{◌≡◌, refl, sym}
use mathlib.Core.Bool.{Bool, true, false}
use mathlib.Core.List.{List, [], ◌∷◌, ◌++◌}
use native.Mathlib.Numerals.{add-one}
use native.Mathlib.Omega.{arith}
use lib.ListN.{length, set, get_or, length-set}
use lib.Seq.{drop-set-lt, get_or-set_same, get_or-set_other}
use lib.Dec.{eqb}
use borrow.Author.Tests.{lt-ltb, le-ltb, eqb-true, eqb-false}
use Rattle.format.specs.Bound.{stack_bound, mark_bound}
use Rattle.format.specs.Machine.{Machine, refuse, go, bounded}
use Rattle.format.specs.Rows.{Row, row_values, row_room, rows_of}
use Rattle.format.specs.Answer.{Tables, limits_of, rows_in, tables}
use Rattle.format.specs.Number.{number_of}
use Rattle.format.specs.declared.Offset.{Offset}
use Rattle.format.specs.declared.refusal.Refusal.{Refusal}
use Rattle.format.specs.declared.refusal.Refused.{Refused}
use Rattle.table.specs.Words.{stored_rows, last_first}
use Rattle.machine.specs.Held.{State}
use Rattle.machine.specs.Held.{Ready, Turn, goes, stops, machine_of, going, refusing, past, after, limited, with_row, made}
use Rattle.format.proofs.TableRows.{length-rows}
use Rattle.table.proofs.Rows.{pushed, length-last_first}
use Rattle.table.proofs.Cleared.{stored-rows, stored_past, stored-length}

-- a refusal, as the code answers it
pub refusal : {x : Turn} {k : Refusal} {p : Offset} {t : Tables} {r : Refused} → r ≡ record { refusal = k; place = p } → x ≡ stops (number_of k) p.0 t → refusing r t ≡ x
unfolding going
refusal f e = rw f (sym e)

module _ (t : Tables) (s : State) where
  -- an item's own refusal, whatever the limits
  pub refused-step : (n p : ℕ) → limited t s (refuse n p) ≡ stops n p t
  unfolding limited after bounded
  refused-step n p = refl

  module _ (k w : ℕ) (m : Machine row_values) where
    pub no_rows : row_room t.rows < s.next.0 + w → limited t s (go k w m) ≡ stops 12 s.at.0 t
    unfolding limited after bounded limits_of
    no_rows h = simp (lt-ltb _ _ h)

    pub no_stack : s.next.0 + w ≤ row_room t.rows → min (length t.stack) stack_bound < length m.stack → limited t s (go k w m) ≡ stops 13 s.at.0 t
    unfolding limited after bounded limits_of
    no_stack h g = simp (le-ltb _ _ h, lt-ltb _ _ g)

    pub no_marks : s.next.0 + w ≤ row_room t.rows → length m.stack ≤ min (length t.stack) stack_bound → min (length t.marks) mark_bound < length m.marks
        → limited t s (go k w m) ≡ stops 14 s.at.0 t
    unfolding limited after bounded limits_of
    no_marks h g f = simp (le-ltb _ _ h, le-ltb _ _ g, lt-ltb _ _ f)

    pub room_for : {depth noted : ℕ} → length m.stack ≡ depth → length m.marks ≡ noted
        → s.next.0 + w ≤ row_room t.rows → depth ≤ min (length t.stack) stack_bound → noted ≤ min (length t.marks) mark_bound
        → limited t s (go k w m) ≡ goes (suc s.at.0 + k) (s.next.0 + w) m.stack m.marks m.registers (rows_in t.rows m.memory) (past t (s.next.0 + w) depth noted)
    unfolding limited after bounded limits_of
    room_for d n h g f =
        let deep : length m.stack ≤ min (length t.stack) stack_bound = rw d g in
        let marked : length m.marks ≤ min (length t.marks) mark_bound = rw n f in
        rw (← d, ← n) (simp (le-ltb _ _ h, le-ltb _ _ deep, le-ltb _ _ marked))

-- rows stored where the next ones belong, n in all
pub stored : (rows : List ℕ) (next : ℕ) (xs : List Row) → next + length xs ≤ row_room rows → (n : ℕ) → n ≡ next + length xs
    → rows_in (stored_rows rows next xs) (rows_of n (stored_rows rows next xs)) ≡ rows_in rows (rows_of next rows ++ xs)
unfolding rows_in
stored rows next xs h n e = rw (e, stored-rows rows next xs h, stored-length rows next xs h) refl

-- one row more over the values below a depth
module _ (rows stack marks registers : List ℕ) (s : State) (below k : ℕ) (x : Row) where
  pub made_12 : row_room rows ≤ s.next.0 → made (tables rows stack marks registers) s below k x ≡ stops 12 s.at.0 (tables rows stack marks registers)
  unfolding made
  made_12 h = no_rows (tables rows stack marks registers) s k 1 _ (omega arith)

  pub made_13 : s.next.0 < row_room rows → min (length stack) stack_bound ≤ below → made (tables rows stack marks registers) s below k x ≡ stops 13 s.at.0 (tables rows stack marks registers)
  unfolding made with_row
  made_13 h g = no_stack (tables rows stack marks registers) s k 1 _ (omega arith) (omega (arith, length-last_first stack below))

  pub made-goes : Ready (tables rows stack marks registers) s → s.next.0 < row_room rows → below < min (length stack) stack_bound → (end : ℕ) → end ≡ suc s.at.0 + k
      → going (record { at = record { 0 = end }; next = record { 0 = s.next.0 + 1 }; depth = record { 0 = below + 1 }; marks = s.marks })
      (tables (stored_rows rows s.next.0 (x ∷ [])) (set stack below s.next.0) marks registers)
      ≡ made (tables rows stack marks registers) s below k x
  unfolding made with_row going machine_of
  made-goes h g f end e =
      let t = tables rows stack marks registers in
      let m = with_row x (last_first stack below) (machine_of t s) in
      let deep : suc (length (last_first stack below)) ≡ below + 1 = omega (arith, length-last_first stack below) in
      let room = room_for t s k 1 m deep (length-last_first marks s.marks) (omega arith) (omega arith) h.noted in
      let top : last_first (set stack below s.next.0) (below + 1) ≡ length (rows_of s.next.0 rows) ∷ last_first stack below =
      rw (add-one, length-rows) (pushed stack below s.next.0 (omega arith)) in
      let next : s.next.0 + 1 ≤ row_room rows = omega arith in
      rw (e, top, stored rows s.next.0 (x ∷ []) next (s.next.0 + 1) refl, stored_past rows s.next.0 (x ∷ []) next, drop-set-lt (below + 1) stack below s.next.0 (omega arith))
      (sym room)

-- the values on a stack are below a bound still, with one more on it that is
pub values-pushed : (words : List ℕ) (depth v bound bound' : ℕ) → depth < length words → ((i : ℕ) → i < depth → get_or words i 0 < bound) → bound ≤ bound' → v < bound'
    → (i : ℕ) → i < depth + 1 → get_or (set words depth v) i 0 < bound'
values-pushed words depth v bound bound' h below f g i l = by (eqb i depth) refl
  where
    by : (q : Bool) → eqb i depth ≡ q → get_or (set words depth v) i 0 < bound'
    by true e = let same : i ≡ depth = eqb-true i depth e in rw (same, get_or-set_same words depth v 0 h) g
    by false e =
        let other : ¬ (i ≡ depth) = eqb-false i depth e in
        rw (get_or-set_other words depth i v 0 other) (omega (arith, below i (omega (arith, other))))

-- so many rows fit where other rows are stored, and so many words where another word is
pub still-fits : (rows : List ℕ) (next : ℕ) (xs : List Row) (n : ℕ) → next + length xs ≤ row_room rows → n ≤ row_room rows → n ≤ row_room (stored_rows rows next xs)
unfolding row_room
still-fits rows next xs n h g = rw (stored-length rows next xs h) g

pub still-room : (words : List ℕ) (at v n bound : ℕ) → n ≤ min (length words) bound → n ≤ min (length (set words at v)) bound
still-room words at v n bound h = rw (length-set words at v) h
