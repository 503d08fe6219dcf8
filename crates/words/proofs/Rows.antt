-- What a row of a sound table, and the row that it wraps, say of the words under them.
use Prim.Native.Nat.{ℕ, ◌+◌, ◌≤◌, ◌<◌}
use mathlib.Core.Path.{◌≡◌, refl, sym, ◌∙◌}
use mathlib.Core.Bool.{true, false}
use mathlib.Core.Option.{Option, none, some}
use mathlib.Core.List.{List}
use native.Mathlib.Omega.{arith}
use lib.ListN.{length}
use lib.Dec.{T}
use borrow.Author.Tests.{lt-ltb, le-ltb, eq-eqb, ne_eqb, eqb-false}
use Rattle.format.specs.Bound.{message_bound}
use Rattle.format.specs.Rows.{Row, row_at, rows_of, binary_kind, tag_kind, span_of, term_at}
use Rattle.format.specs.Sound.{sound_row, sound_rows, sound_table}
use Rattle.format.specs.Term as T
use Rattle.format.specs.Term.{Term}
use Rattle.format.specs.Word as F
use Rattle.format.specs.Word.{formats, format_in, no_word, word_under, word_named, word_of_term}
use Rattle.format.specs.Answer.{over_bound, word_answer}
use Rattle.format.proofs.Tests.{either}
use Rattle.format.proofs.TableRows as R
use Rattle.format.proofs.TableRows.{length-rows, Passed, passed, judged}
use Rattle.table.specs.Words.{row_in}
use Rattle.table.proofs.Rows.{row_of}
use Rattle.words.specs.Known.{word_of_rows}

-- the two rows by their kinds
module _ (message : List ℕ) (tag block : Row) (k : ℕ) where
  pub no_tag : (tag.kind ≡ tag_kind → ⊥) → no_word 18 ≡ word_of_rows message tag block k
  unfolding word_of_rows
  no_tag h = rw (ne_eqb tag.kind tag_kind h) refl

  module _ (t : tag.kind ≡ tag_kind) where
    pub no_binary : (block.kind ≡ binary_kind → ⊥) → no_word 18 ≡ word_of_rows message tag block k
    unfolding word_of_rows
    no_binary h = rw (eq-eqb tag.kind tag_kind t, ne_eqb block.kind binary_kind h) refl

    pub word_of : block.kind ≡ binary_kind
        → word_named (format_in formats (span_of message tag.first tag.second)) (T.binary (span_of message block.first block.second)) k ≡ word_of_rows message tag block k
    unfolding word_of_rows
    word_of b = rw (eq-eqb tag.kind tag_kind t, eq-eqb block.kind binary_kind b) refl

-- 18 for all but a binary under a tag, whatever its name
no_block : (o : Option F.Format) (t : Term) (k : ℕ) → ((f : F.Format) → word_under f t k ≡ no_word 18) → word_named o t k ≡ no_word 18
unfolding word_named
no_block none t k h = refl
no_block (some f) t k h = h f

module _ (message : List ℕ) (rows : List Row) (sound : T (sound_rows message rows)) (k : ℕ) where
  abbrev term : ℕ → Term
  term i = term_at message rows i

  -- the terms of rows of other kinds
  not-binary : (i : ℕ) → i < length rows → ((row_at rows i).kind ≡ binary_kind → ⊥) → (o : Option F.Format) → word_named o (term i) k ≡ no_word 18
  unfolding word_under
  not-binary i l h o =
      let own = (judged message rows sound i l).own in
      let is : (t : Term) → term i ≡ t → ((f : F.Format) → word_under f t k ≡ no_word 18) → word_named o (term i) k ≡ no_word 18 = λ t e u. rw e (no_block o t k u) in
      R.by_kind message i (row_at rows i) own
      (λ e. is _ (R.integer-term message rows i l e) (λ f. refl))
      (λ e. is _ (R.atom-term message rows i l e) (λ f. refl))
      (λ e. is _ (R.string-term message rows i l e) (λ f. refl))
      (λ e. absurd (h e))
      (λ e. is _ (R.nil-term message rows i l e) (λ f. refl))
      (λ e. is _ (R.cons-term message rows i l own e) (λ f. refl))
      (λ e. is _ (R.end-term message rows i l e) (λ f. refl))
      (λ e. is _ (R.field_term message rows i l own e) (λ f. refl))
      (λ e. is _ (R.tag-term message rows i l own e) (λ f. refl))

  not-tag : (i : ℕ) → i < length rows → ((row_at rows i).kind ≡ tag_kind → ⊥) → word_of_term (term i) k ≡ no_word 18
  unfolding word_of_term
  not-tag i l h =
      let own = (judged message rows sound i l).own in
      R.by_kind message i (row_at rows i) own
      (λ e. rw (R.integer-term message rows i l e) refl)
      (λ e. rw (R.atom-term message rows i l e) refl)
      (λ e. rw (R.string-term message rows i l e) refl)
      (λ e. rw (R.binary-term message rows i l e) refl)
      (λ e. rw (R.nil-term message rows i l e) refl)
      (λ e. rw (R.cons-term message rows i l own e) refl)
      (λ e. rw (R.end-term message rows i l e) refl)
      (λ e. rw (R.field_term message rows i l own e) refl)
      (λ e. absurd (h e))

-- what `read_word` has to answer
module _ (message words : List ℕ) (used root k : ℕ) where
  abbrev answer : F.Word
  answer = word_answer message words used root k

  pub over-bound : message_bound < length message → no_word 1 ≡ answer
  unfolding word_answer over_bound
  over-bound h = rw (lt-ltb message_bound (length message) h) refl

  pub unsound : length message ≤ message_bound → sound_table message words used root ≡ false → no_word 16 ≡ answer
  unfolding word_answer over_bound
  unsound short e = rw (le-ltb message_bound (length message) short, e) refl

-- the table is sound; its row `root`, and the row that this one names third
module _ (message words : List ℕ) (used root : ℕ) (sound : sound_table message words used root ≡ true) (tag block : Row)
    (t : tag ≡ row_in words root) (b : block ≡ row_in words tag.third) where
  abbrev rows : List Row
  rows = rows_of used words

  tested : Passed message words used root
  tested = passed message words used root (rw sound tt)

  root-among : root < length rows
  root-among = omega (arith, tested.among, length-rows used words)

  tag-row : tag ≡ row_at rows root
  tag-row = t ∙ row_of words used root tested.fits tested.among

  own : T (sound_row message root tag)
  own = rw tag-row (judged message rows tested.rows root root-among).own

  -- a tag and its inner row
  module _ (e : tag.kind ≡ tag_kind) where
    inner-among : tag.third < length rows
    inner-among = omega (arith, R.tag-inner message root tag own e, root-among)

    block_row : block ≡ row_at rows tag.third
    block_row = b ∙ row_of words used tag.third tested.fits (omega (arith, inner-among, length-rows used words))

    block_own : T (sound_row message tag.third block)
    block_own = rw block_row (judged message rows tested.rows tag.third inner-among).own

    pub spans : (tag.first + tag.second ≤ length message) × (block.kind ≡ binary_kind → block.first + block.second ≤ length message)
    spans = (R.tag-inside message root tag own e, R.binary-inside message tag.third block block_own)

    tag-term : term_at message rows root ≡ T.tag (span_of message tag.first tag.second) (term_at message rows tag.third)
    tag-term = rw tag-row (R.tag-term message rows root root-among (rw (← tag-row) own) (rw (← tag-row) e))

    block_term : block.kind ≡ binary_kind → term_at message rows tag.third ≡ T.binary (span_of message block.first block.second)
    block_term f = rw block_row (R.binary-term message rows tag.third inner-among (rw (← block_row) f))

    under : (k : ℕ) → word_named (format_in formats (span_of message tag.first tag.second)) (term_at message rows tag.third) k ≡ word_of_rows message tag block k
    unfolding word_of_rows
    under k =
        either block.kind binary_kind
        (λ f. rw (eq-eqb tag.kind tag_kind e, eq-eqb block.kind binary_kind f, block_term f) refl)
        (λ q. rw (eq-eqb tag.kind tag_kind e, q) (not-binary message rows tested.rows k tag.third inner-among (λ f. eqb-false block.kind binary_kind q (rw block_row f)) _))

  -- the root's term is read from the two rows
  term-word : (k : ℕ) → word_of_term (term_at message rows root) k ≡ word_of_rows message tag block k
  unfolding word_of_term word_of_rows
  term-word k =
      either tag.kind tag_kind
      (λ e. rw (tag-term e) (under e k))
      (λ q. rw q (not-tag message rows tested.rows k root root-among (λ e. eqb-false tag.kind tag_kind q (rw tag-row e))))

  pub table-word : (k : ℕ) → length message ≤ message_bound → word_of_rows message tag block k ≡ word_answer message words used root k
  unfolding word_answer over_bound
  table-word k short = rw (le-ltb message_bound (length message) short, sound) (sym (term-word k))
