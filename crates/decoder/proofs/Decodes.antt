-- From what the run leaves to the decoder's whole answer.
use Prim.Native.Nat.{ℕ, ◌*◌, ◌≤◌, ◌<◌}
use mathlib.Core.Path.{◌≡◌, refl, ap, sym, ◌∙◌}
use mathlib.Core.List.{List, []}
use native.Mathlib.Nat.{sub-zero}
use native.Mathlib.Omega.{arith}
use lib.ListN.{length, length-replicate}
use borrow.Author.Tests.{lt-ltb, le-ltb}
use Rattle.format.specs.Bound.{message_bound, register_words}
use Rattle.format.specs.Machine as M
use Rattle.format.specs.Machine.{Outcome, refused, accepted}
use Rattle.format.specs.Rows.{row_words, row_values, words_of}
use Rattle.format.specs.Answer.{Tables, over_bound, zeroed, limits_of, rows_in, cleared, decode_result, decode_answer, SameLengths, tables}
use Rattle.table.specs.Words.{cleared_from}
use Rattle.std.specs.Prelude.{Result, Ok, Err}
use Rattle.format.specs.Number.{number_of}
use Rattle.format.specs.declared.refusal.Refusal.TheVariants as Why
use Rattle.format.specs.declared.refusal.Refused.{Refused}
use Rattle.decoder.specs.declared.Accepted.{Accepted}
use Rattle.decoder.specs.Answers.{decoded_as}
use Rattle.decoder.specs.Run.{Left, left_as, left_by, settled}

module _ (message : List ℕ) (t : Tables) where
  -- before reading starts
  pub over : message_bound < length message → decoded_as (Err (record { refusal = Why.OverBound; place = record { 0 = 0 } })) t ≡ decode_answer message t
  unfolding decoded_as decode_answer over_bound
  over h = rw (lt-ltb message_bound (length message) h) refl

  module _ (in_bound : length message ≤ message_bound) where
    pub short : length t.registers < register_words → decoded_as (Err (record { refusal = Why.ShortTable; place = record { 0 = 0 } })) t ≡ decode_answer message t
    unfolding decoded_as decode_answer over_bound
    short h = rw (le-ltb message_bound (length message) in_bound, lt-ltb (length t.registers) register_words h) refl

    -- the machine's answer
    started : register_words ≤ length t.registers → decode_answer message t ≡ decode_result t (M.run row_values (limits_of t) message)
    unfolding decode_answer over_bound
    started h = rw (le-ltb message_bound (length message) in_bound, le-ltb (length t.registers) register_words h) refl

-- clearing goes by lengths
length-zeroed : (words : List ℕ) → length (zeroed words) ≡ length words
unfolding zeroed
length-zeroed words = length-replicate (length words) 0

same-zeroed : (words old : List ℕ) → length words ≡ length old → zeroed words ≡ zeroed old
unfolding zeroed
same-zeroed words old e = rw e refl

no_rows : (words : List ℕ) → rows_in words [] ≡ zeroed words
unfolding rows_in zeroed words_of
no_rows words = rw sub-zero refl

cleared-limits : (rows stack marks registers : List ℕ) → limits_of (tables rows stack marks (zeroed registers)) ≡ limits_of (tables rows stack marks registers)
unfolding limits_of
cleared-limits rows stack marks registers = refl

-- the tables t as lent; registers are cleared, the run leaves the tables u, and they are settled
module _ (t u : Tables) (same : SameLengths t u) where
  result : (o : Outcome (M.Result row_values)) (r : Result Accepted Refused) → left_as r u.rows ≡ left_by t.rows o → decoded_as r (settled r u) ≡ decode_result t o
  unfolding left_as left_by decoded_as settled decode_result cleared
  result (refused n p) (Ok a) e = let z : ◌≡◌ {A = ℕ} 0 1 = cc in absurd (omega arith)
  result (accepted k r) (Err x) e = let z : ◌≡◌ {A = ℕ} 0 1 = cc in absurd (omega arith)
  result (accepted k r) (Ok a) e =
      let bytes : a.consumed ≡ k = cc in
      let left : ◌≡◌ {A = Left} (record { root = a.root.0; used = a.used; words = cleared_from (a.used * row_words) u.rows }) (record { root = r.root; used = r.used; words = rows_in t.rows r.memory }) = cc in
      let root' : a.root.0 ≡ r.root = ap (λ (l : Left). l.root) left in
      let used' : a.used ≡ r.used = ap (λ (l : Left). l.used) left in
      let words' : cleared_from (a.used * row_words) u.rows ≡ rows_in t.rows r.memory = ap (λ (l : Left). l.words) left in
      rw (words', bytes, root', used', same-zeroed t.stack u.stack same.stack, same-zeroed t.marks u.marks same.marks, same-zeroed t.registers u.registers same.registers) refl
  result (refused n' p') (Err x) e =
      let number : number_of x.refusal ≡ n' = cc in
      let place : x.place.0 ≡ p' = cc in
      rw (number, place, no_rows t.rows, same-zeroed t.rows u.rows same.rows, same-zeroed t.stack u.stack same.stack, same-zeroed t.marks u.marks same.marks, same-zeroed t.registers u.registers same.registers) refl

-- the whole answer: registers cleared, the run, and the tables settled
module _ (message rows stack marks registers registers₁ : List ℕ) (emptied : registers₁ ≡ zeroed registers) where
  pub decoded : length message ≤ message_bound → register_words ≤ length registers → (u v : Tables) → SameLengths (tables rows stack marks registers₁) u → (r : Result Accepted Refused)
      → left_as r u.rows ≡ left_by rows (M.run row_values (limits_of (tables rows stack marks registers₁)) message) → v ≡ settled r u
      → decoded_as r v ≡ decode_answer message (tables rows stack marks registers)
  decoded in_bound h u v same r e f =
      let t = tables rows stack marks registers in
      let o = M.run row_values (limits_of t) message in
      let kept : SameLengths t u = record {
        rows = same.rows;
        stack = same.stack;
        marks = same.marks;
        registers = sym (length-zeroed registers) ∙ ap length (sym emptied) ∙ same.registers;
      } in
      let left : left_as r u.rows ≡ left_by rows o = e ∙ rw (emptied, cleared-limits rows stack marks registers) refl in
      rw (f, started message t in_bound h) (result t u kept o r left)

-- a table that was cleared is zero
pub is-zeroed : (words old : List ℕ) → words ≡ zeroed old → words ≡ zeroed words
is-zeroed words old e = e ∙ same-zeroed old words (sym (ap length e ∙ length-zeroed old))

-- the tables, one by one, as they are settled
module _ (r : Result Accepted Refused) (rows stack marks registers : List ℕ) {stack' marks' registers' : List ℕ} (es : stack' ≡ zeroed stack) (em : marks' ≡ zeroed marks) (er : registers' ≡ zeroed registers) where
  pub settled-refused : (x : Refused) → r ≡ Err x → {rows' : List ℕ} → rows' ≡ zeroed rows → tables rows' stack' marks' registers' ≡ settled r (tables rows stack marks registers)
  unfolding settled
  settled-refused x e ew = rw (e, ew, es, em, er) refl

  pub settled-accepted : (a : Accepted) → r ≡ Ok a → {rows' : List ℕ} → rows' ≡ cleared_from (a.used * row_words) rows
      → tables rows' stack' marks' registers' ≡ settled r (tables rows stack marks registers)
  unfolding settled
  settled-accepted a e ew = rw (e, ew, es, em, er) refl
