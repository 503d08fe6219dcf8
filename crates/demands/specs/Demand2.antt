-- Demand 2: a message is accepted with exactly the term that the stack machine gives it, under the limits, and each refusal comes
-- exactly when its rule says. What is written out reads back as that term unless message length or lent tables are the refused limit. Sensor words
-- come out in the byte order their tag names, on every processor.
use Rattle.std.specs.Prelude.{ℕ, ◌*◌, ◌/◌, ◌%◌, ◌≤◌, ◌<◌, ◌≡◌, Bool, ◌||◌, cond, List, ◌++◌, ℤ, length, take, drop, eqb, ltb, T, Result, Ok, Err}
use Rattle.std.proofs.Math.Option.{some}
use Rattle.format.specs.Bound.{message_bound, register_words}
use Rattle.format.specs.Machine as M
use Rattle.format.specs.Machine.{Outcome, refused, accepted, run}
use Rattle.format.specs.Meaning.{term_values, message_term}
use Rattle.format.specs.Number.{number_of}
use Rattle.format.specs.Rows.{rows_of, term_at}
use Rattle.format.specs.Sound.{sound_table}
use Rattle.format.specs.Term.{Term, binary, tag}
use Rattle.format.specs.Text.{plain}
use Rattle.format.specs.Word as F
use Rattle.format.specs.Word.{Format, formats, format_in, word_of, word_of_term}
use Rattle.format.specs.Answer.{Tables, over_bound, limits_of, decode_answer, write_answer, word_answer, SameLengths}
use Rattle.format.specs.declared.Row.{Row}
use Rattle.format.specs.declared.refusal.Refusal.{Refusal}
use Rattle.format.specs.declared.refusal.Refusal.TheVariants.{Uneven, NoWord}
use Rattle.format.specs.declared.refusal.Refused.{Refused}
use Rattle.decoder.specs.Answers.{decoded_as}
use Rattle.decoder.specs.declared.Accepted.{Accepted}
use Rattle.text.specs.Answers.{written_as}
use Rattle.words.specs.Answers.{word_as}
use Rattle.demands.specs.declared.TripRefused.{TripRefused}
use Rattle.demands.specs.declared.TripRefused.TheVariants.{NotWritten, NotRead}
use Rattle.demands.specs.declared.WordRefused.{WordRefused}
use Rattle.demands.specs.declared.WordRefused.TheVariants as W

-- what `decode` answers, with the term that the root row of the table left behind stands for
unfoldable pub in_terms : List ℕ → Result Accepted Refused → Tables → Outcome (M.Result term_values)
in_terms message (Ok a) u = accepted a.consumed (record { used = a.used; root = term_at message (rows_of a.used u.rows) a.root.0; memory = tt })
in_terms message (Err e) u = refused (number_of e.refusal) e.place.0

-- what it has to answer: 1, 2, or what the machine at terms says under the limits of the tables
unfoldable pub machine_says : List ℕ → Tables → Outcome (M.Result term_values)
machine_says message t =
    cond (over_bound message) (refused 1 0)
    (cond (ltb (length t.registers) register_words) (refused 2 0)
    (run term_values (limits_of t) message))

-- the tables t are lent to `decode`, which answers r to the message and leaves the tables u
pub record DecodeMeans (message : List ℕ) (t : Tables) (r : Result Accepted Refused) (u : Tables) : Type 0 where
  -- the same refusal at the same place, or the same bytes consumed, the same count of rows and the same term
  pub machine : in_terms message r u ≡ machine_says message t
  -- that term is the message's by its bytes alone: no limit, no row, no table comes into it
  pub term : (a : Accepted) → r ≡ Ok a → message_term message ≡ some (term_at message (rows_of a.used u.rows) a.root.0)
  -- the table left behind is sound, so that no later function refuses it with 16
  pub sound : (a : Accepted) → r ≡ Ok a → T (sound_table message u.rows a.used a.root.0)

-- 01: if a message is accepted, changing bytes after its `$`, or the tables' old contents, changes nothing. The bytes x are consumed; `decode` answers r
-- to x and y with the tables t, and r' to x and z with the tables t', and leaves u and u'
abbrev pub NothingChanges : Type 0
NothingChanges =
    (x y z : List ℕ) (t t' : Tables) → SameLengths t t' → length (x ++ z) ≤ message_bound
    → (r r' : Result Accepted Refused) (u u' : Tables) → decoded_as r u ≡ decode_answer (x ++ y) t → decoded_as r' u' ≡ decode_answer (x ++ z) t'
    → (a : Accepted) → a.consumed ≡ length x → r ≡ Ok a → (r' ≡ r) × (u' ≡ u)

-- message length and lent tables
unfoldable pub is_limit : ℕ → Bool
is_limit number = eqb number 1 || eqb number 2 || eqb number 12 || eqb number 13 || eqb number 14

-- n bytes were written for a term; `decode` answers d to them and whatever comes after them, in all `bytes`, and leaves the tables u
pub data ReadsBack (term : Term) (n : ℕ) (bytes : List ℕ) (u : Tables) : Result Accepted Refused → Type 0 where
  -- exactly the bytes written are consumed, the table left is sound, and its root row stands for the same term
  same : (root : Row) (used : ℕ) → T (sound_table bytes u.rows used root.0) → term_at bytes (rows_of used u.rows) root.0 ≡ term → ReadsBack term n bytes u (Ok (record { consumed = n; root = root; used = used }))
  limit : (e : Refused) → T (is_limit (number_of e.refusal)) → ReadsBack term n bytes u (Err e)

-- whatever `write` wrote for row `root`, `decode` reads back, with any tables and anything after the bytes written
abbrev pub WrittenReadsBack : Type 0
WrittenReadsBack =
    (message words : List ℕ) (used root : ℕ) (scratch output : List ℕ) (w : Result ℕ Refusal) (scratch' output' : List ℕ) → written_as w scratch' output' ≡ write_answer message words used root scratch output
    → (n : ℕ) → w ≡ Ok n → (after : List ℕ) (t : Tables) (d : Result Accepted Refused) (u : Tables) → decoded_as d u ≡ decode_answer (take n output' ++ after) t
    → ReadsBack (term_at message (rows_of used words) root) n (take n output' ++ after) u d

-- a round trip, written and then read: the refusal of the writing; the bytes, the root, the rows used and the term that was read; the refusal of the reading
pub data Trip : Type 0 where
  not_written : ℕ → Trip
  read : ℕ → ℕ → ℕ → Term → Trip
  not_read : ℕ → ℕ → Trip

-- the answer of `decode` as that of a round trip
unfoldable pub reading : Result Accepted Refused → Result Accepted TripRefused
reading (Ok a) = Ok a
reading (Err e) = Err (NotRead e)

-- the answer of a round trip, with the term that the root row of the table left behind stands for
unfoldable pub trip_as : List ℕ → Result Accepted TripRefused → Tables → Trip
trip_as output (Ok a) u = read a.consumed a.root.0 a.used (term_at (take a.consumed output) (rows_of a.used u.rows) a.root.0)
trip_as output (Err (NotWritten refusal)) u = not_written (number_of refusal)
trip_as output (Err (NotRead e)) u = not_read (number_of e.refusal) e.place.0

-- what it has to be where the text of a term was written: all of its bytes and the same term, or what the machine refuses it for
unfoldable pub read_as : Term → ℕ → Outcome (M.Result term_values) → Trip
read_as term root (refused number place) = not_read number place
read_as term root (accepted consumed r) = read (length (plain term)) root r.used term

-- what it has to be, from the message, the rows and the lengths of the buffers: neither `write`'s number nor the limits look at old contents
unfoldable pub trip_says : List ℕ → List ℕ → ℕ → ℕ → List ℕ → List ℕ → Tables → Trip
trip_says message words used root scratch output t =
    let number = (write_answer message words used root scratch output).number in
    let term = term_at message (rows_of used words) root in
    cond (eqb number 0) (read_as term (decode_answer (plain term) t).root (machine_says (plain term) t)) (not_written number)

-- the buffers that it leaves
pub record Buffers : Type 0 where
  pub scratch : List ℕ
  pub output : List ℕ
  pub tables : Tables

abbrev pub buffers : List ℕ → List ℕ → Tables → Buffers
buffers scratch output t = record { scratch = scratch; output = output; tables = t }

-- those that `write` leaves, and the tables that `decode` leaves of the text, or as they were where nothing was written
unfoldable pub trip_leaves : List ℕ → List ℕ → ℕ → ℕ → List ℕ → List ℕ → Tables → Buffers
trip_leaves message words used root scratch output t =
    let w = write_answer message words used root scratch output in
    buffers w.scratch w.output (cond (eqb w.number 0) (decode_answer (plain (term_at message (rows_of used words) root)) t).tables t)

-- `read_word` answers w for word k of a tag over the binary of these bytes, where the tag's name stands for the format f
pub record ReadsWord (f : Format) (bytes : List ℕ) (k : ℕ) (w : Result ℤ Refusal) : Type 0 where
  -- as many bytes as the width says, from k times as many on, joined in the order that the name says, for i in two's complement
  pub word : length bytes % f.width ≡ 0 → k < length bytes / f.width → w ≡ Ok (word_of f (take f.width (drop (k * f.width) bytes)))
  -- past the last word
  pub past : length bytes % f.width ≡ 0 → length bytes / f.width ≤ k → w ≡ Err NoWord
  -- bytes that are no whole number of words
  pub uneven : (length bytes % f.width ≡ 0 → ⊥) → w ≡ Err Uneven

-- for any message that `decode` accepts, with tables of any lengths and any old contents, and any row number at which a term stands that is a tag of a known name over a
-- binary: `read_word`, on the message, the row table as `decode` left it and the count that it answered, reads the words of that binary
abbrev pub AcceptedWords : Type 0
AcceptedWords =
    (message : List ℕ) (t u : Tables) (a : Accepted) → decoded_as (Ok a) u ≡ decode_answer message t
    → (row : Row) (name bytes : List ℕ) → term_at message (rows_of a.used u.rows) row.0 ≡ tag name (binary bytes)
    → (f : Format) → format_in formats name ≡ some f
    → (k : ℕ) (w : Result ℤ Refusal) → word_as w ≡ word_answer message u.rows a.used row.0 k
    → ReadsWord f bytes k w

-- a message decoded and a word of its term read: the refusal of the message; of the word; or the word
pub data Reading : Type 0 where
  not_decoded : ℕ → ℕ → Reading
  no_word : ℕ → Reading
  value : ℤ → Reading

-- the answer of a function that decodes a message and reads a word of its term
unfoldable pub reading_as : Result ℤ WordRefused → Reading
reading_as (Ok z) = value z
reading_as (Err (W.NotDecoded e)) = not_decoded (number_of e.refusal) e.place.0
reading_as (Err (W.NoWord refusal)) = no_word (number_of refusal)

-- the word, or the number of a refusal
unfoldable pub word_found : F.Word → Reading
word_found w = cond (eqb w.number 0) (value w.value) (no_word w.number)

-- what it has to answer for word k, from what the machine at terms says of the message
unfoldable pub word_says : Outcome (M.Result term_values) → ℕ → Reading
word_says (refused number place) k = not_decoded number place
word_says (accepted consumed r) k = word_found (word_of_term r.root k)
