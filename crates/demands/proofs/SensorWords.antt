-- Demand 2's last sentence, of `decode` and `read_word` together.
use Prim.Native.Nat.{ℕ, ◌<◌}
use mathlib.Core.Path.{◌≡◌, refl, ap, sym, ◌∙◌}
use mathlib.Core.Bool.{true}
use mathlib.Core.Option.{some}
use mathlib.Core.List.{List, []}
use mathlib.Core.Logic.{inl, inr}
use native.Mathlib.Omega.{arith}
use lib.ListN.{length, get_or-eq_default}
use lib.Dec.{T}
use lib.IntN.{ℤ}
use lib.Ieee.Bits.{is_true}
use borrow.Author.Tests.{le-leb, lt-ltb}
use Rattle.std.proofs.lemmas.Bool.{cases_lt}
use Rattle.std.specs.Prelude.{Result, Ok, Err}
use Rattle.format.specs.Rows.{rows_of, row_room, no_term, terms_after, term_at}
use Rattle.format.specs.Sound.{count_fits, root_among, sound_rows, sound_table}
use Rattle.format.specs.Term.{Term, binary, tag}
use Rattle.format.specs.Word.{Format, formats, format_in, word_in, word_under, word_named, word_of_term}
use Rattle.format.specs.Answer.{Tables, decode_refusal, decode_answer, word_answer}
use Rattle.format.proofs.Decoded.{accepts}
use Rattle.format.proofs.TableRows.{terms_length}
use Rattle.format.proofs.TableRows.{length-rows, passed}
use Rattle.format.specs.declared.refusal.Refusal.{Refusal}
use Rattle.format.specs.declared.refusal.Refused.{Refused}
use Rattle.decoder.specs.Answers.{decoded_as}
use Rattle.decoder.specs.declared.Accepted.{Accepted}
use Rattle.words.specs.Answers.{word_as}
use Rattle.demands.specs.Demand2.{in_terms, machine_says, ReadsWord, AcceptedWords, reading_as, word_found, word_says}
use Rattle.demands.specs.declared.WordRefused.{WordRefused}
use Rattle.demands.specs.declared.WordRefused.TheVariants as W
use Rattle.demands.proofs.Demand2.{number, demand2}
use Rattle.demands.proofs.Errors.{with_error}
use Rattle.demands.proofs.Numbers.{at_least_1, same_refusal}

-- what is said of word k of some bytes
reads : (f : Format) (bytes : List ℕ) (k : ℕ) (w : Result ℤ Refusal) → word_as w ≡ word_in f bytes k → ReadsWord f bytes k w
unfolding word_as word_in
reads f bytes k w e = record {
  word = λ even inside. grind (arith, at_least_1);
  past = λ even over. grind (arith, at_least_1, same_refusal);
  uneven = λ odd. grind (arith, at_least_1, same_refusal);
}

-- a row at which a tag stands is among those used: past them there is none
tag-among : (message words : List ℕ) (used row : ℕ) (name : List ℕ) (t : Term) → term_at message (rows_of used words) row ≡ tag name t → row < used
unfolding term_at
tag-among message words used row name t e = elim (cases_lt row used) [
  | inl l ↦ l
  | inr s ↦
      let rows = rows_of used words in
      let count : length (terms_after message [] rows) ≡ used = omega (arith, terms_length message [] rows, length-rows used words) in
      let none : no_term ≡ tag name t = sym (get_or-eq_default (terms_after message [] rows) no_term (omega arith)) ∙ e in
      absurd (cc)
]

-- the table that `decode` left is sound with any of its rows in the root's place
sound-at : (message words : List ℕ) (used root row : ℕ) → T (sound_table message words used root) → row < used → sound_table message words used row ≡ true
unfolding sound_table count_fits root_among
sound-at message words used root row h l =
    let p = passed message words used root h in
    rw (le-leb used (row_room words) p.fits, lt-ltb row used l, is_true (sound_rows message (rows_of used words)) p.rows) refl

-- `read_word`, on the table that `decode` left of an accepted message, answers by the term at the row
row_word : (message : List ℕ) (t u : Tables) (a : Accepted) → decoded_as (Ok a) u ≡ decode_answer message t
    → (row : ℕ) → row < a.used → (k : ℕ) → word_answer message u.rows a.used row k ≡ word_of_term (term_at message (rows_of a.used u.rows) row) k
unfolding word_answer
row_word message t u a promise row l k =
    let short = (accepts message t (number message t u a promise)).in_bound in
    rw (short, sound-at message u.rows a.used a.root.0 row ((demand2 message t _ u promise).sound a refl) l) refl

-- and where a tag of a known name over a binary stands there, by that binary's bytes
pub block_word : (message : List ℕ) (t u : Tables) (a : Accepted) → decoded_as (Ok a) u ≡ decode_answer message t
    → (row : ℕ) (name bytes : List ℕ) → term_at message (rows_of a.used u.rows) row ≡ tag name (binary bytes) → (f : Format) → format_in formats name ≡ some f
    → (k : ℕ) → word_answer message u.rows a.used row k ≡ word_in f bytes k
unfolding word_of_term word_named word_under
block_word message t u a promise row name bytes at f known k =
    row_word message t u a promise row (tag-among message u.rows a.used row name (binary bytes) at) k ∙ rw (at, known) refl

pub accepted-words : AcceptedWords
accepted-words message t u a promise row name bytes at f known k w answer =
    reads f bytes k w (answer ∙ block_word message t u a promise row.0 name bytes at f known k)

-- a word of a message's own term: what is answered, and the tables left
found-read : (w : Result ℤ Refusal) → reading_as (with_error W.NoWord w) ≡ word_found (word_as w)
unfolding reading_as word_found word_as
found-read w = grind (arith, at_least_1)

module _ (message : List ℕ) (t : Tables) (k : ℕ) where
  abbrev pub Meets : Result ℤ WordRefused → Tables → Type 0
  Meets r u = (reading_as r ≡ word_says (machine_says message t) k) × (u ≡ (decode_answer message t).tables)

  module _ (d : Result Accepted Refused) (u : Tables) (promise : decoded_as d u ≡ decode_answer message t) where
    left : u ≡ (decode_answer message t).tables
    unfolding decoded_as decode_refusal
    left = grind arith

    pub not-decoded : (x : Refused) → d ≡ Err x → Meets (Err (W.NotDecoded x)) u
    unfolding reading_as word_says in_terms
    not-decoded x e = (rw (← (demand2 message t d u promise).machine, e) refl, left)

    pub decoded : (a : Accepted) → d ≡ Ok a
        → (w : Result ℤ Refusal) → word_as w ≡ word_answer message u.rows a.used a.root.0 k → Meets (with_error W.NoWord w) u
    unfolding word_says in_terms
    decoded a e w answer =
        let accepts-it : decoded_as (Ok a) u ≡ decode_answer message t = rw e at promise in
        let among = (passed message u.rows a.used a.root.0 ((demand2 message t _ u accepts-it).sound a refl)).among in
        let told = answer ∙ row_word message t u a accepts-it a.root.0 among k in
        (rw (← (demand2 message t d u promise).machine, e) (found-read w ∙ ap word_found told), left)
