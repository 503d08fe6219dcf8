-- From what `decode` and `write` promise to the line that the program has to write.
use Prim.Native.Nat.{ℕ, ◌+◌, ◌≤◌}
use mathlib.Core.Path.{◌≡◌, refl, ap, ◌∙◌}
use mathlib.Core.Bool.{Bool, true, false, cond}
use mathlib.Core.List.{List, ◌++◌}
use native.Mathlib.Omega.{arith}
use lib.ListN.{length, drop, replicate, length-append}
use lib.Seq.{take-append_seam}
use lib.Dec.{ltb}
use lib.Ieee.Bits.{is_true}
use borrow.Author.Tests.{le-ltb}
use Rattle.std.specs.Prelude.{Result, Ok, Err}
use Rattle.format.specs.Number.{number_of}
use Rattle.format.specs.Answer as A
use Rattle.format.specs.Answer.{Tables, zeroed, limits_of, decode_answer, decode_result, write_refusal, write_text, write_answer}
use Rattle.format.specs.Rows.{row_values, row_room, rows_of, term_at}
use Rattle.format.specs.Sound.{sound_table}
use Rattle.format.specs.Term.{Term}
use Rattle.format.specs.Text.{plain}
use Rattle.format.specs.declared.refusal.Refusal.{Refusal}
use Rattle.format.specs.declared.refusal.Refused.{Refused}
use Rattle.format.proofs.Decoded.{accepts}
use Rattle.format.proofs.Limits.{rows_fit}
use Rattle.format.proofs.Sizes.{plain_size}
use Rattle.decoder.specs.Answers.{decoded_as}
use Rattle.decoder.specs.declared.Accepted.{Accepted}
use Rattle.text.specs.Answers.{written_as}
use Rattle.demands.specs.Demand2.{in_terms, machine_says}
use Rattle.demands.proofs.Demand2.{number, demand2}
use Rattle.demands.proofs.Errors.{with_error}
use Rattle.ubfa_text.specs.Response.{program_tables, refusal, text, line, line_says, InOutput}

-- the refusals of a writing have the place 0
abbrev pub unwritten : Refusal → Refused
unwritten r = record { refusal = r; place = record { 0 = 0 } }

-- the program's scratch has a word for every row that its table can hold
pub scratch-enough : row_room program_tables.rows ≤ length {A = ℕ} (replicate 1024 0)
unfolding program_tables row_room
scratch-enough = omega arith

-- a writing of a term's text: the line it gives, and that the bytes lie in the output
written-line : (term : Term) (scratch output : List ℕ) (w : Result ℕ Refusal) (scratch' output' : List ℕ) → written_as w scratch' output' ≡ write_text (plain term) scratch output
    → (line (with_error unwritten w) output' ≡ cond (ltb (length output) (length (plain term))) (refusal 15 0) (text (plain term)))
    × InOutput (with_error unwritten w) output'
unfolding write_text written_as write_refusal line
written-line term scratch output w scratch' output' promise = by (ltb (length output) (length (plain term))) w promise
  where
    by : (long : Bool) (w : Result ℕ Refusal)
        → written_as w scratch' output' ≡ cond long (write_refusal 15 (zeroed scratch) output) (record { number = 0; bytes = length (plain term); scratch = zeroed scratch; output = plain term ++ drop (length (plain term)) output })
        → (line (with_error unwritten w) output' ≡ cond long (refusal 15 0) (text (plain term))) × InOutput (with_error unwritten w) output'
    by true (Ok n) e = absurd (omega (arith, ap (λ (a : A.Written). a.number) e))
    by true (Err m) e =
        let fifteen : number_of m ≡ 15 = ap (λ (a : A.Written). a.number) e in
        (rw fifteen refl, tt)
    by false (Ok n) e =
        let count : n ≡ length (plain term) = ap (λ (a : A.Written). a.bytes) e in
        let left : output' ≡ plain term ++ drop (length (plain term)) output = ap (λ (a : A.Written). a.output) e in
        let whole : length output' ≡ length (plain term) + length (drop (length (plain term)) output) = rw left (length-append (plain term) (drop (length (plain term)) output)) in
        (rw (left, count, take-append_seam (plain term) (drop (length (plain term)) output)) refl, omega arith)
    by false (Err m) e = absurd (omega (arith, ap (λ (a : A.Written). a.bytes) e, plain_size term))

-- `decode` with the tables t answers d to the message, and leaves u
module _ (message : List ℕ) (t : Tables) (d : Result Accepted Refused) (u : Tables) (promise : decoded_as d u ≡ decode_answer message t) where
  pub refused-line : (x : Refused) → d ≡ Err x → (room : ℕ) (output : List ℕ) → line (Err x) output ≡ line_says (machine_says message t) room
  unfolding in_terms line line_says
  refused-line x e room output = rw (← (demand2 message t (Err x) u (rw e at promise)).machine) refl

  -- the row table has no more room than the scratch
  module _ (a : Accepted) (e : d ≡ Ok a) (scratch : List ℕ) (room : row_room t.rows ≤ length scratch) where
    acceptance : decoded_as (Ok a) u ≡ decode_answer message t
    acceptance = rw e at promise

    abbrev term : Term
    term = term_at message (rows_of a.used u.rows) a.root.0

    enough : a.used ≤ length scratch
    unfolding decoded_as decode_result limits_of
    enough =
        let known = accepts message t (number message t u a acceptance) in
        let count : a.used ≡ known.result.used = ap (λ (d : A.Decoded). d.used) (acceptance ∙ known.answer) in
        let few : known.result.used ≤ row_room t.rows = rows_fit row_values (limits_of t) message known.consumed known.result known.ran in
        omega arith

    -- so that nothing but 15 is refused
    answer : (output : List ℕ) → write_answer message u.rows a.used a.root.0 scratch output ≡ write_text (plain term) scratch output
    unfolding write_answer
    answer output =
        let bound = (accepts message t (number message t u a acceptance)).in_bound in
        let sound = is_true (sound_table message u.rows a.used a.root.0) ((demand2 message t (Ok a) u acceptance).sound a refl) in
        rw (bound, le-ltb (length scratch) a.used enough, sound) refl

    pub accepted-line : (output : List ℕ) (w : Result ℕ Refusal) (scratch' output' : List ℕ) → written_as w scratch' output' ≡ write_answer message u.rows a.used a.root.0 scratch output
        → (line (with_error unwritten w) output' ≡ line_says (machine_says message t) (length output)) × InOutput (with_error unwritten w) output'
    unfolding in_terms line_says
    accepted-line output w scratch' output' wrote =
        let says = (demand2 message t (Ok a) u acceptance).machine in
        let both = written-line term scratch output w scratch' output' (wrote ∙ answer output) in
        rw (← says) both
