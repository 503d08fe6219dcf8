-- A table cleared from a word on, and rows stored in a table whatever lies past them.
use Prim.Native.Nat.{ℕ, zero, suc, ◌+◌, ◌*◌, ◌-◌, ◌≤◌}
use mathlib.Core.Path.{◌≡◌, refl, ap, ◌∙◌}
use mathlib.Core.List.{List, ◌∷◌, ◌++◌, append-nil, append_assoc}
use native.Mathlib.Nat.{le_refl, sub-zero}
use native.Mathlib.Omega.{arith}
use borrow.Rule.Slice.PartMut.{mid_of, put_mid, Post-is, mid_len}
use lib.ListN.{length, take, drop, length-append}
use lib.Seq.{sets-eq, drop-append_seam, take_all, drop-length, length-sets}
use Rattle.format.specs.Rows.{Row, row_words, words_of, rows_of, row_room}
use Rattle.format.specs.Answer.{zeroed, rows_in}
use Rattle.format.proofs.Decoded.{rows_back, words-length}
use Rattle.format.proofs.TableRows.{length-rows}
use Rattle.table.specs.Words.{stored_rows, cleared_from}
use Rattle.table.proofs.Rows.{words_append}

module _ (words : List ℕ) (from : ℕ) where
  pub cleared-part : from ≤ length words → (part : List ℕ) → part ≡ zeroed (mid_of from (length words - from) words)
      → put_mid from (length words - from) words part ≡ cleared_from from words
  unfolding cleared_from zeroed
  cleared-part h part e = rw (e, Post-is from (length words) words h, drop-length, append-nil, mid_len from (length words) words (le_refl (length words))) refl

  pub cleared-none : length words ≤ from → words ≡ cleared_from from words
  unfolding cleared_from
  cleared-none h = let none : length words - from ≡ 0 = omega arith in rw (take_all from words h, none, append-nil) refl

-- from the first word on
pub cleared-all : (words : List ℕ) → cleared_from 0 words ≡ zeroed words
unfolding cleared_from zeroed
cleared-all words = rw sub-zero refl

-- the words of the rows that lie there
words_back : (n : ℕ) (words : List ℕ) → n * row_words ≤ length words → words_of (rows_of n words) ≡ take (n * row_words) words
unfolding words_of rows_of
words_back zero words h = refl
words_back (suc n) (a ∷ b ∷ c ∷ d ∷ rest) h =
    let four : suc n * row_words ≡ suc (suc (suc (suc (n * row_words)))) = omega arith in
    rw four (ap (λ (l : List ℕ). a ∷ b ∷ c ∷ d ∷ l) (words_back n rest (omega arith)))
words_back (suc n) _ h = absurd (omega arith)

-- cleared past its rows, a table holds them and zeros
pub cleared-rows : (words : List ℕ) (n : ℕ) → n ≤ row_room words → cleared_from (n * row_words) words ≡ rows_in words (rows_of n words)
unfolding cleared_from rows_in row_room
cleared-rows words n h =
    let count : length (words_of (rows_of n words)) ≡ n * row_words = omega (arith, words-length (rows_of n words), length-rows n words) in
    rw (count, words_back n words (omega arith)) refl

-- rows stored after n are found there with those before them, and the table keeps its length
module _ (words : List ℕ) (n : ℕ) (rows : List Row) (h : n + length rows ≤ row_room words) where
  stored-words : stored_rows words n rows ≡ words_of (rows_of n words ++ rows) ++ drop (n * row_words + length (words_of rows)) words
  unfolding row_room stored_rows
  stored-words =
      sets-eq (words_of rows) words (n * row_words) (omega (arith, words-length rows))
      ∙ rw (words_append (rows_of n words) rows, words_back n words (omega arith), append_assoc) refl

  count : length (rows_of n words ++ rows) ≡ n + length rows
  count = length-append (rows_of n words) rows ∙ ap (λ (k : ℕ). k + length rows) (length-rows n words)

  pub stored-rows : rows_of (n + length rows) (stored_rows words n rows) ≡ rows_of n words ++ rows
  stored-rows = rw (stored-words, ← count) (rows_back (rows_of n words ++ rows) _)

  pub stored_past : drop ((n + length rows) * row_words) (stored_rows words n rows) ≡ drop ((n + length rows) * row_words) words
  stored_past =
      let head : length (words_of (rows_of n words ++ rows)) ≡ (n + length rows) * row_words = omega (arith, words-length (rows_of n words ++ rows), count) in
      let place : n * row_words + length (words_of rows) ≡ (n + length rows) * row_words = omega (arith, words-length rows) in
      rw (stored-words, place, ← head) (drop-append_seam (words_of (rows_of n words ++ rows)) _)

  pub stored-length : length (stored_rows words n rows) ≡ length words
  unfolding stored_rows
  stored-length = length-sets words (n * row_words) (words_of rows)
