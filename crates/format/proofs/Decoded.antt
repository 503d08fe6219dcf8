-- What an accepted decoding leaves: a sound table whose root row stands for the message's term.
use Prim.Native.Nat.{ℕ, ◌*◌, ◌≤◌}
use mathlib.Core.Path.{◌≡◌, refl, ap, sym, ◌∙◌}
use mathlib.Core.Bool.{false}
use mathlib.Core.Option.{some}
use mathlib.Core.List.{List, [], ◌∷◌, ◌++◌}
use native.Mathlib.Omega.{arith}
use lib.ListN.{length, length-append, length-replicate}
use lib.Dec.{T, lt→ltb, le→leb}
use lib.Ieee.Fits.{and_i}
use Rattle.format.specs.Machine.{Limits, Result, Outcome, refused, accepted, run}
use Rattle.format.specs.Meaning.{term_values, accepted_value, message_term}
use Rattle.format.specs.Rows.{Row, row_values, row_words, term_at, words_of, rows_of, row_room}
use Rattle.format.specs.Sound.{count_fits, root_among, sound_table}
use Rattle.format.specs.Answer.{Tables, over_bound, limits_of, rows_in, cleared, decode_refusal, decode_result, decode_answer}
use Rattle.format.proofs.Simulation.{in_terms, same_answer}
use Rattle.format.proofs.SoundRows.{accepted-rows}
use Rattle.format.proofs.Limits.{accepted-free, rows_fit}
use Rattle.format.proofs.RowCount.{machine-number}

-- theorem 2, second half: the term at an accepted message's root row is the term of the message by its bytes alone
pub root-term : (lim : Limits) (message : List ℕ) (consumed : ℕ) (res : Result row_values) → run row_values lim message ≡ accepted consumed res
    → message_term message ≡ some (term_at message res.memory res.root)
unfolding message_term accepted_value in_terms
root-term lim message consumed res e =
    ap accepted_value (accepted-free term_values lim message consumed _ (sym (same_answer message lim) ∙ ap (in_terms message) e))

-- rows lie in their words: they are found there again, whatever follows
pub rows_back : (rows : List Row) (rest : List ℕ) → rows_of (length rows) (words_of rows ++ rest) ≡ rows
unfolding rows_of words_of
rows_back [] rest = refl
rows_back (r ∷ rows) rest = ap (λ (rs : List Row). r ∷ rs) (rows_back rows rest)

pub rows_in_lem : (words : List ℕ) (rows : List Row) → rows_of (length rows) (rows_in words rows) ≡ rows
unfolding rows_in
rows_in_lem words rows = rows_back rows _

pub words-length : (rows : List Row) → length (words_of rows) ≡ row_words * length rows
unfolding words_of
words-length [] = refl
words-length (r ∷ rows) = omega (arith, words-length rows)

-- a table keeps its length where the rows have room in it
pub rows-length : (words : List ℕ) (rows : List Row) → length rows ≤ row_room words → length (rows_in words rows) ≡ length words
unfolding rows_in row_room
rows-length words rows h = simp (length-append, length-replicate) (omega (arith, words-length rows))

-- an accepted message: neither 1 nor 2, and the machine accepted it
pub record Accepts (message : List ℕ) (t : Tables) : Type 0 where
  pub in_bound : over_bound message ≡ false
  pub consumed : ℕ
  pub result : Result row_values
  pub ran : run row_values (limits_of t) message ≡ accepted consumed result
  pub answer : decode_answer message t ≡ decode_result t (accepted consumed result)

pub accepts : (message : List ℕ) (t : Tables) → (decode_answer message t).number ≡ 0 → Accepts message t
unfolding decode_answer decode_refusal decode_result
accepts message t z = by (run row_values (limits_of t) message) refl
  where
    by : (o : Outcome (Result row_values)) → run row_values (limits_of t) message ≡ o → Accepts message t
    by (refused n p) e = absurd (grind (arith, machine-number row_values (limits_of t) message n p e))
    by (accepted k res) e = record { in_bound = grind arith; consumed = k; result = res; ran = e; answer = grind arith }

module _ (message : List ℕ) (t : Tables) where
  -- the rows of an accepted message, lying in the table lent
  result-sound : (consumed : ℕ) (res : Result row_values) → run row_values (limits_of t) message ≡ accepted consumed res → T (sound_table message (rows_in t.rows res.memory) res.used res.root)
  unfolding sound_table count_fits root_among limits_of row_room
  result-sound consumed res e =
      let words = rows_in t.rows res.memory in
      let a = accepted-rows message (limits_of t) consumed res e in
      let room : res.used ≤ row_room t.rows = rows_fit row_values (limits_of t) message consumed res e in
      let same : length words ≡ length t.rows = rows-length t.rows res.memory (omega (arith, a.count)) in
      let lies : rows_of res.used words ≡ res.memory = rw (← a.count) (rows_in_lem t.rows res.memory) in
      grind (arith, and_i, le→leb, lt→ltb, room, same, lies, a.sound, a.root)

  module _ (z : (decode_answer message t).number ≡ 0) where
    -- the table that an accepted message leaves is not refused by 16
    pub decoded-sound : T (sound_table message (decode_answer message t).tables.rows (decode_answer message t).used (decode_answer message t).root)
    unfolding decode_result cleared
    decoded-sound =
        let a = accepts message t z in
        rw a.answer (result-sound a.consumed a.result a.ran)

    -- and its root row stands for the term of the message
    pub decoded-term : message_term message ≡ some (term_at message (rows_of (decode_answer message t).used (decode_answer message t).tables.rows) (decode_answer message t).root)
    unfolding decode_result cleared
    decoded-term =
        let a = accepts message t z in
        let s = accepted-rows message (limits_of t) a.consumed a.result a.ran in
        rw a.answer (rw (← s.count) (rw rows_in_lem (root-term (limits_of t) message a.consumed a.result a.ran)))
