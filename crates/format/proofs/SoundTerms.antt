-- The rows of a sound table stand for sound terms.
use Prim.Native.Nat.{ℕ, ◌+◌, ◌^◌, ◌≤◌, ◌<◌}
use mathlib.Core.Bool.{false, ◌&&◌}
use mathlib.Core.List.{List, [], ◌∷◌, ◌++◌}
use mathlib.Core.Logic.{inl, inr}
use native.Mathlib.Omega.{arith}
use lib.IntN.{pos}
use lib.ListN.{length, get_or, take, drop, length-take, get_or-eq_default}
use lib.Dec.{T, lt→ltb, leb→le}
use lib.Ieee.Fits.{and_i, and_l, and_r}
use borrow.Author.Tests.{ltb-true, ltb-false}
use Rattle.std.proofs.lemmas.List.Elements.{All-nil, All-push}
use Rattle.std.proofs.lemmas.Bool.{cases_lt}
use Rattle.std.specs.List.{All}
use Rattle.format.specs.Lex.{in_range}
use Rattle.format.specs.Term as T
use Rattle.format.specs.Term.{Term}
use Rattle.format.specs.Meaning.{items_of}
use Rattle.format.specs.Bits.{from_bits}
use Rattle.format.specs.Rows.{Row, integer_of_row, no_term, fields_of, span_of, term_of_row, terms_after, term_at, rows_of}
use Rattle.format.specs.Sound.{spelled, in_slice, spelled_in, sound_row, sound_rest, sound_after, sound_rows, sound_table, sound_term, sound_terms}
use Rattle.format.proofs.TableRows.{passed}

-- two's complement of 64 bits is in range, whatever the words hold
pub bits_range : (n : ℕ) → T (in_range (from_bits 64 n))
unfolding from_bits in_range
bits_range n = grind (arith, ltb-false n (2 ^ 63), ltb-true n (2 ^ 63), lt→ltb)

abbrev AllSound : List Term → Type 0
AllSound = All (λ t. T (sound_term t))

sound-at : (ts : List Term) (i : ℕ) → AllSound ts → T (sound_term (get_or ts i no_term))
unfolding sound_term spelled
sound-at ts i h = elim (cases_lt i (length ts)) [ inl l ↦ h i no_term l | inr l ↦ rw (get_or-eq_default ts no_term l) tt ]

items_sound : (t : Term) → T (sound_term t) → T (sound_terms (items_of t))
unfolding sound_term items_of
items_sound (T.list ts) h = h
items_sound _ h = tt

fields_sound : (t : Term) → T (sound_term t) → T (sound_terms (fields_of t))
unfolding sound_term fields_of
fields_sound (T.tuple ts) h = h
fields_sound _ h = tt

module _ (message : List ℕ) (short : length message < 2 ^ 63) where
  spelled_of : (quote a b : ℕ) → T (spelled_in message quote a b) → T (spelled quote false (span_of message a b))
  unfolding spelled_in
  spelled_of quote a b h = and_r (in_slice message a b) (spelled quote false (span_of message a b)) h

  span-short : (a b : ℕ) → T (in_slice message a b) → T (in_range (pos (length (span_of message a b))))
  unfolding in_slice in_range
  span-short a b h =
      let l : a + b ≤ length message = leb→le (a + b) (length message) h in
      let fits : length (take b (drop a message)) < 2 ^ 63 = simp length-take (omega arith) in
      lt→ltb (length (take b (drop a message))) (2 ^ 63) fits

  row-sound : (i : ℕ) (ts : List Term) (r : Row) → AllSound ts → T (sound_row message i r) → T (sound_term (term_of_row message ts r))
  unfolding sound_row term_of_row sound_term integer_of_row
  row-sound i ts r s h =
      let at : (j : ℕ) → T (sound_term (get_or ts j no_term)) = λ j. sound-at ts j s in
      grind (arith, bits_range, spelled_of, span-short, items_sound, fields_sound, at, and_l, and_r, and_i)

  terms_sound : (earlier : List Row) (ts : List Term) (rows : List Row) → AllSound ts → T (sound_after message earlier rows) → AllSound (terms_after message ts rows)
  unfolding sound_after terms_after
  terms_sound earlier ts [] s h = s
  terms_sound earlier ts (r ∷ rows) s h =
      let own = sound_row message (length earlier) r in
      let rest = sound_rest r.kind _ in
      terms_sound (earlier ++ (r ∷ [])) (ts ++ (term_of_row message ts r ∷ [])) rows
      (All-push (λ u. T (sound_term u)) ts (term_of_row message ts r) s (row-sound (length earlier) ts r s (and_l own rest (and_l (own && rest) _ h)))) (and_r (own && rest) _ h)

  pub table-term : (words : List ℕ) (used root : ℕ) → T (sound_table message words used root) → T (sound_term (term_at message (rows_of used words) root))
  unfolding sound_rows term_at
  table-term words used root h =
      sound-at (terms_after message [] (rows_of used words)) root (terms_sound [] [] (rows_of used words) (All-nil (λ t. T (sound_term t))) (passed message words used root h).rows)
