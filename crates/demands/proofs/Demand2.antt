-- Demand 2 of `decode`, and of `write` and `decode` together.
use Prim.Native.Nat.{ℕ, ◌≤◌}
use mathlib.Core.Path.{◌≡◌, refl, ap, sym, ◌∙◌}
use mathlib.Core.Bool.{cond}
use mathlib.Core.List.{List, [], ◌++◌, append-nil}
use native.Mathlib.Omega.{arith}
use lib.ListN.{length, take, drop, length-append}
use lib.Seq.{take-append_seam}
use lib.Dec.{ltb, T}
use borrow.Author.Tests.{ltb-false}
use Rattle.std.specs.Prelude.{Result, Ok, Err}
use Rattle.format.specs.Bound.{register_words}
use Rattle.format.specs.Machine as M
use Rattle.format.specs.Machine.{Limits, Outcome, refused, accepted, run}
use Rattle.format.specs.Number.{number_of}
use Rattle.format.specs.Meaning.{term_values}
use Rattle.format.specs.Rows.{row_values, rows_of, term_at}
use Rattle.format.specs.Sound.{sound_table, sound_term}
use Rattle.format.specs.Term.{Term}
use Rattle.format.specs.Text.{plain}
use Rattle.format.specs.Answer as A
use Rattle.format.specs.Answer.{Tables, over_bound, limits_of, rows_in, cleared, decode_refusal, decode_result, decode_answer, write_refusal, write_text, write_answer}
use Rattle.format.proofs.Decoded.{rows_in_lem, accepts, decoded-sound, decoded-term}
use Rattle.format.proofs.ReadBack as B
use Rattle.format.proofs.ReadBack.{read-back_limits}
use Rattle.format.proofs.RowCount.{machine-number}
use Rattle.format.proofs.Simulation as S
use Rattle.format.proofs.Simulation.{same_answer}
use Rattle.format.proofs.SoundRows.{accepted-rows}
use Rattle.format.proofs.SoundTerms.{table-term}
use Rattle.format.proofs.Suffix.{NotCut, appended}
use Rattle.format.proofs.Unchanged.{unchanged}
use Rattle.format.specs.declared.refusal.Refusal.{Refusal}
use Rattle.format.specs.declared.refusal.Refused.{Refused}
use Rattle.decoder.specs.Answers.{decoded_as}
use Rattle.decoder.specs.declared.Accepted.{Accepted}
use Rattle.text.specs.Answers.{written_as}
use Rattle.demands.specs.Demand2.{in_terms, machine_says, DecodeMeans, NothingChanges, is_limit, ReadsBack, same, limit, WrittenReadsBack, reading, read_as, trip_as, trip_says, buffers, trip_leaves}
use Rattle.demands.proofs.Numbers.{at_least_1}
use Rattle.demands.specs.declared.TripRefused.{TripRefused}
use Rattle.demands.specs.declared.TripRefused.TheVariants.{NotWritten, NotRead}

machine_says_lem : (message : List ℕ) (t : Tables) (r : Result Accepted Refused) (u : Tables) → decoded_as r u ≡ decode_answer message t → in_terms message r u ≡ machine_says message t
unfolding decode_answer decode_refusal decode_result decoded_as cleared machine_says in_terms S.in_terms
machine_says_lem message t r u promise = by (run row_values (limits_of t) message) refl (same_answer message (limits_of t))
  where
    by : (o : Outcome (M.Result row_values)) → run row_values (limits_of t) message ≡ o → S.in_terms message o ≡ run term_values (limits_of t) message → in_terms message r u ≡ machine_says message t
    by (refused n p) q told =
        let number = machine-number row_values (limits_of t) message n p q in
        grind (arith, number, told)
    by (accepted k res) q told =
        let a = accepted-rows message (limits_of t) k res q in
        let rows : rows_of res.used (rows_in t.rows res.memory) ≡ res.memory = rw (← a.count) (rows_in_lem t.rows res.memory) in
        grind (arith, a.root, rows, told)

-- an accepted answer, in the paper's numbers
module _ (message : List ℕ) (t u : Tables) (a : Accepted) (promise : decoded_as (Ok a) u ≡ decode_answer message t) where
  pub number : (decode_answer message t).number ≡ 0
  unfolding decoded_as
  number = ap (λ (d : A.Decoded). d.number) (sym promise)

pub demand2 : (message : List ℕ) (t : Tables) (r : Result Accepted Refused) (u : Tables) → decoded_as r u ≡ decode_answer message t → DecodeMeans message t r u
unfolding decoded_as
demand2 message t r u promise = record {
  machine = machine_says_lem message t r u promise;
  term = λ a e. let p = rw e at promise in rw (← p) at (decoded-term message t (number message t u a p));
  sound = λ a e. let p = rw e at promise in rw (← p) at (decoded-sound message t (number message t u a p));
}

pub nothing_changes : NothingChanges
unfolding decoded_as decode_refusal decode_result
nothing_changes x y z t t' s h r r' u u' first second a all e =
    let first' : decoded_as (Ok a) u ≡ decode_answer (x ++ y) t = rw e at first in
    let zero = number (x ++ y) t u a first' in
    let place : (decode_answer (x ++ y) t).place ≡ length x = ap (λ (d : A.Decoded). d.place) (sym first') ∙ all in
    let same = second ∙ unchanged x y z t t' s h zero place ∙ sym first' in
    let known = accepts (x ++ y) t zero in
    let some = (accepted-rows (x ++ y) (limits_of t) known.consumed known.result known.ran).root in
    let used : a.used ≡ known.result.used = ap (λ (d : A.Decoded). d.used) (first' ∙ known.answer) in
    (grind (arith, same, some, used), grind (arith, same, some, used))

not-cut : {term : Term} {o : Outcome (M.Result term_values)} → B.ReadsBack term o → NotCut o
not-cut (B.whole rows) = tt
not-cut (B.no_room n p h) = λ e. omega arith

-- a text with anything after it is read as the text alone: the same term, all of the text consumed, or no room
text-read : (term : Term) → T (sound_term term) → (lim : Limits) (after : List ℕ) → B.ReadsBack term (run term_values lim (plain term ++ after))
text-read term s lim after =
    let r = read-back_limits lim term s in
    rw (appended term_values lim (plain term) after _ refl (not-cut r)) r

-- `decode` on a text with anything after it
text-back : (term : Term) → T (sound_term term) → (after : List ℕ) (t : Tables) (d : Result Accepted Refused) (u : Tables) → decoded_as d u ≡ decode_answer (plain term ++ after) t
    → ReadsBack term (length (plain term)) (plain term ++ after) u d
unfolding machine_says in_terms is_limit
text-back term s after t d u promise =
    by d (text-read term s (limits_of t) after) (machine_says_lem (plain term ++ after) t d u promise) (demand2 (plain term ++ after) t d u promise).sound
  where
    bytes : List ℕ
    bytes = plain term ++ after

    by : (d : Result Accepted Refused) {o : Outcome (M.Result term_values)} → B.ReadsBack term o
        → in_terms bytes d u ≡ cond (over_bound bytes) (refused 1 0) (cond (ltb (length t.registers) register_words) (refused 2 0) o)
        → ((a : Accepted) → d ≡ Ok a → T (sound_table bytes u.rows a.used a.root.0)) → ReadsBack term (length (plain term)) bytes u d
    by (Err x) (B.whole rows) e sound = limit x (grind arith)
    by (Err x) (B.no_room m q h) e sound = limit x (grind arith)
    by (Ok a) (B.no_room m q h) e sound = absurd (grind arith)
    by (Ok a) (B.whole rows) e sound =
        let count : a.consumed ≡ length (plain term) = grind arith in
        let root : term_at bytes (rows_of a.used u.rows) a.root.0 ≡ term = grind arith in
        rw count (same a.root a.used (sound a refl) root)

-- what `write` wrote is a sound term's text
record Wrote (message words : List ℕ) (used root n : ℕ) (output' : List ℕ) : Type 0 where
  sound : T (sound_term (term_at message (rows_of used words) root))
  count : n ≡ length (plain (term_at message (rows_of used words) root))
  text : take n output' ≡ plain (term_at message (rows_of used words) root)
  fits : n ≤ length output'

wrote : (message words : List ℕ) (used root : ℕ) (scratch output : List ℕ) (n : ℕ) (scratch' output' : List ℕ) → written_as (Ok n) scratch' output' ≡ write_answer message words used root scratch output
    → Wrote message words used root n output'
unfolding written_as write_refusal write_text write_answer over_bound
wrote message words used root scratch output n scratch' output' promise =
    let text = plain (term_at message (rows_of used words) root) in
    let count : n ≡ length text = grind arith in
    let lies : output' ≡ text ++ drop (length text) output = grind arith in
    record {
      sound = grind (arith, table-term message, ltb-false);
      count = count;
      fits = rw lies (omega (arith, count, length-append text (drop (length text) output)));
      text = rw (count, lies) (take-append_seam text (drop (length text) output));
    }

-- the bytes reported lie in the output
pub bytes_fit : (message words : List ℕ) (used root : ℕ) (scratch output : List ℕ) (w : Result ℕ Refusal) (scratch' output' : List ℕ) → written_as w scratch' output' ≡ write_answer message words used root scratch output
    → (n : ℕ) → w ≡ Ok n → n ≤ length output'
bytes_fit message words used root scratch output w scratch' output' promise n e = (wrote message words used root scratch output n scratch' output' (rw e at promise)).fits

pub written-reads_back : WrittenReadsBack
written-reads_back message words used root scratch output w scratch' output' promise n q after t d u read =
    let wr = wrote message words used root scratch output n scratch' output' (rw q at promise) in
    rw (wr.text, wr.count) (text-back (term_at message (rows_of used words) root) wr.sound after t d u (rw wr.text at read))

-- a round trip: what it answers, the buffers that it leaves, and that no reading is refused but for a limit
module _ (message words : List ℕ) (used root : ℕ) (scratch output : List ℕ) (t : Tables) (scratch' output' : List ℕ) (u : Tables) where
  abbrev pub Trips : Result Accepted TripRefused → Type 0
  Trips r =
      (trip_as output' r u ≡ trip_says message words used root scratch output t)
      × ((buffers scratch' output' u ≡ trip_leaves message words used root scratch output t) × ((x : Refused) → r ≡ Err (NotRead x) → T (is_limit (number_of x.refusal))))

  abbrev answer : A.Written
  answer = write_answer message words used root scratch output

  abbrev term : Term
  term = term_at message (rows_of used words) root

  not_written_lem : (n : Refusal) → written_as (Err n) scratch' output' ≡ answer → u ≡ t → Trips (Err (NotWritten n))
  unfolding trip_as trip_says trip_leaves written_as write_refusal
  not_written_lem n promise e = (grind (arith, at_least_1 n), (grind (arith, at_least_1 n), λ x q. absurd (cc)))

  written_read : (n : ℕ) (d : Result Accepted Refused) → written_as (Ok n) scratch' output' ≡ answer → decoded_as d u ≡ decode_answer (take n output') t → Trips (reading d)
  unfolding trip_as reading read_as in_terms trip_says trip_leaves decoded_as decode_refusal written_as
  written_read n d promise read =
      let w = wrote message words used root scratch output n scratch' output' promise in
      let text : decoded_as d u ≡ decode_answer (plain term) t = rw w.text at read in
      let head : take (length (plain term)) output' ≡ plain term = rw w.count at w.text in
      let back : ReadsBack term (length (plain term)) (plain term) u d = rw append-nil at (text-back term w.sound [] t d u (rw append-nil text)) in
      let told = machine_says_lem (plain term) t d u text in
      (grind (arith, back, head, text, told), (grind (arith, back, text), λ x q. grind (arith, back)))

  -- the answer w of the writing
  module _ (w : Result ℕ Refusal) (promise : written_as w scratch' output' ≡ answer) where
    pub trip_refused : (n : Refusal) → w ≡ Err n → u ≡ t → Trips (Err (NotWritten n))
    trip_refused n e kept = not_written_lem n (rw e at promise) kept

    pub trip_read : (n : ℕ) → w ≡ Ok n → (d : Result Accepted Refused) → decoded_as d u ≡ decode_answer (take n output') t → (r : Result Accepted TripRefused) → r ≡ reading d → Trips r
    trip_read n e d read r q = rw q (written_read n d (rw e at promise) read)
