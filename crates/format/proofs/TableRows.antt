-- The rows of a sound table one by one: each is sound by its own words and its rest's kind, and stands for a term that is made of
-- the terms of earlier rows.
use Prim.Native.Nat.{ℕ, zero, suc, ◌+◌, ◌≤◌, ◌<◌}
use Prim.Native.Char.{code}
use mathlib.Core.Path.{◌≡◌, refl, ap, ap₂, sym, ◌∙◌}
use mathlib.Core.Bool.{false, ◌&&◌}
use mathlib.Core.List.{List, [], ◌∷◌, ◌++◌, append_assoc}
use mathlib.Core.Logic.{inl, inr}
use native.Mathlib.Omega.{arith}
use lib.ListN.{length, get_or, take, drop, length-append, get_or-append}
use lib.Seq.{get_or-append_seam, get_or_at, length-take-le, split_at}
use lib.Dec.{eqb, ltb, T, ltb→lt, leb→le}
use lib.Ieee.Fits.{and_l, and_r}
use Rattle.std.proofs.lemmas.Bool.{cases_eq}
use Rattle.format.specs.Term as T
use Rattle.format.specs.Term.{Term, ◌then◌}
use Rattle.format.specs.Meaning.{items_of}
use Rattle.format.specs.Rows.{Row, row, row_at, row_words, rows_of, row_room, integer_kind, atom_kind, string_kind, binary_kind, nil_kind, cons_kind, end_kind, field_kind, tag_kind, integer_of_row, span_of, fields_of, no_term, term_of_row, terms_after, term_at}
use Rattle.format.specs.Sound.{in_slice, spelled, spelled_in, count_fits, root_among, sound_row, sound_rest, sound_after, sound_rows, sound_table}
use Rattle.format.proofs.Tests.{either}

-- as many rows lie in words as are read there
pub length-rows : (used : ℕ) (words : List ℕ) → length (rows_of used words) ≡ used
unfolding rows_of
length-rows zero words = refl
length-rows (suc n) words = ap suc (length-rows n (drop row_words words))

-- what the test of a table says: its rows have room, its root is among them, and each of them is sound
pub record Passed (message words : List ℕ) (used root : ℕ) : Type 0 where
  pub fits : used ≤ row_room words
  pub among : root < used
  pub rows : T (sound_rows message (rows_of used words))

pub passed : (message words : List ℕ) (used root : ℕ) → T (sound_table message words used root) → Passed message words used root
unfolding sound_table count_fits root_among
passed message words used root h = search (and_l, and_r, leb→le)

module _ (message : List ℕ) where
  -- a span that is spelled as between quotes lies in the slice
  spelled-inside : (quote start n : ℕ) → T (spelled_in message quote start n) → start + n ≤ length message
  unfolding spelled_in in_slice
  spelled-inside quote start n h = leb→le (start + n) (length message) (and_l (in_slice message start n) (spelled quote false (span_of message start n)) h)

  -- what a row's own words say of its span and of the rows that it names, by its kind
  module _ (i : ℕ) (r : Row) (s : T (sound_row message i r)) where
    pub atom-inside : r.kind ≡ atom_kind → r.first + r.second ≤ length message
    unfolding sound_row
    atom-inside k = let h = rw (k) at s in spelled-inside (code "'") r.first r.second (and_r (eqb r.third 0) _ h)

    pub string-inside : r.kind ≡ string_kind → r.first + r.second ≤ length message
    unfolding sound_row
    string-inside k = let h = rw (k) at s in spelled-inside (code "\"") r.first r.second (and_r (eqb r.third 0) _ h)

    pub binary-inside : r.kind ≡ binary_kind → r.first + r.second ≤ length message
    unfolding sound_row in_slice
    binary-inside k = let h = rw (k) at s in leb→le (r.first + r.second) (length message) (and_r (eqb r.third 0) _ h)

    pub tag-inside : r.kind ≡ tag_kind → r.first + r.second ≤ length message
    unfolding sound_row
    tag-inside k = let h = rw (k) at s in spelled-inside (code "`") r.first r.second (and_l (spelled_in message (code "`") r.first r.second) _ h)

    pub tag-inner : r.kind ≡ tag_kind → r.third < i
    unfolding sound_row
    tag-inner k = let h = rw (k) at s in ltb→lt r.third i (and_r (spelled_in message (code "`") r.first r.second) _ h)

    -- a list cell, or a tuple's field
    cell-earlier : T (eqb r.third 0 && ltb r.first i && ltb r.second i) → (r.first < i) × (r.second < i)
    cell-earlier h = search (and_l, and_r, ltb→lt)

    pub cons-earlier : r.kind ≡ cons_kind → (r.first < i) × (r.second < i)
    unfolding sound_row
    cons-earlier k = cell-earlier (rw k at s)

    pub field_earlier : r.kind ≡ field_kind → (r.first < i) × (r.second < i)
    unfolding sound_row
    field_earlier k = cell-earlier (rw k at s)

    -- the kind read for the rest matters only where it is an earlier row's
    pub rest-kind : (x y : ℕ) → (r.second < i → x ≡ y) → sound_rest r.kind x ≡ sound_rest r.kind y
    unfolding sound_rest
    rest-kind x y h =
        either r.kind cons_kind (λ k. rw (h (cons-earlier k).1)) (λ a. either r.kind field_kind (λ k. rw (h (field_earlier k).1)) (λ b. rw (a, b)))

    -- no other kind is sound
    pub by_kind : {G : Type 0} → (r.kind ≡ integer_kind → G) → (r.kind ≡ atom_kind → G) → (r.kind ≡ string_kind → G) → (r.kind ≡ binary_kind → G) → (r.kind ≡ nil_kind → G)
        → (r.kind ≡ cons_kind → G) → (r.kind ≡ end_kind → G) → (r.kind ≡ field_kind → G) → (r.kind ≡ tag_kind → G) → G
    unfolding sound_row
    by_kind {G} f1 f2 f3 f4 f5 f6 f7 f8 f9 =
        let test : (k : ℕ) → (r.kind ≡ k → G) → (eqb r.kind k ≡ false → G) → G = λ k f g. either r.kind k f g in
        test integer_kind f1 (λ n1. test atom_kind f2 (λ n2. test string_kind f3 (λ n3. test binary_kind f4 (λ n4. test nil_kind f5 (λ n5.
        test cons_kind f6 (λ n6. test end_kind f7 (λ n7. test field_kind f8 (λ n8. test tag_kind f9 (λ n9. absurd (rw (n1, n2, n3, n4, n5, n6, n7, n8, n9) at s))))))))))

  -- row i of a sound table
  pub record Judged (rows : List Row) (i : ℕ) : Type 0 where
    pub own : T (sound_row message i (row_at rows i))
    pub rest : T (sound_rest (row_at rows i).kind (row_at rows (row_at rows i).second).kind)

  -- the rest's kind among the earlier rows is its kind among all
  same_rest : (earlier rows : List Row) (r : Row) → T (sound_row message (length earlier) r) → T (sound_rest r.kind (row_at earlier r.second).kind)
      → T (sound_rest r.kind (row_at (earlier ++ rows) r.second).kind)
  unfolding row_at
  same_rest earlier rows r s t =
      rw (rest-kind (length earlier) r s (row_at (earlier ++ rows) r.second).kind (row_at earlier r.second).kind (λ h. ap (λ (x : Row). x.kind) (get_or-append earlier rows (row 0 0 0 0) r.second h))) t

  judged-from : (earlier rows : List Row) → T (sound_after message earlier rows) → (i : ℕ) → length earlier ≤ i → i < length (earlier ++ rows) → Judged (earlier ++ rows) i
  unfolding sound_after row_at
  judged-from earlier [] h i l u = absurd (omega (arith, length-append earlier []))
  judged-from earlier (r ∷ rows) h i l u =
      let own = sound_row message (length earlier) r in
      let own' = own && sound_rest r.kind (row_at earlier r.second).kind in
      elim (cases_eq i (length earlier)) [
        | inl e ↦
            let at : row_at (earlier ++ (r ∷ rows)) (length earlier) ≡ r = get_or-append_seam earlier r rows (row 0 0 0 0) in
            let first = and_l own' _ h in
            rw e (record { own = rw at (and_l own _ first); rest = rw at (same_rest earlier (r ∷ rows) r (and_l own _ first) (and_r own _ first)) })
        | inr e ↦
            rw append_assoc
            at (judged-from (earlier ++ (r ∷ [])) rows (and_r own' _ h) i (omega (arith, length-append earlier (r ∷ []))) (rw append_assoc u))
      ]

  pub judged : (rows : List Row) → T (sound_rows message rows) → (i : ℕ) → i < length rows → Judged rows i
  unfolding sound_rows
  judged rows h i l = judged-from [] rows h i (omega arith) l

  -- the terms of rows, and of rows after them
  pub terms_append : (ts : List Term) (rows more : List Row) → terms_after message ts (rows ++ more) ≡ terms_after message (terms_after message ts rows) more
  unfolding terms_after
  terms_append ts [] more = refl
  terms_append ts (r ∷ rows) more = terms_append (ts ++ (term_of_row message ts r ∷ [])) rows more

  pub terms_length : (ts : List Term) (rows : List Row) → length (terms_after message ts rows) ≡ length ts + length rows
  unfolding terms_after
  terms_length ts [] = omega arith
  terms_length ts (r ∷ rows) = omega (arith, terms_length (ts ++ (term_of_row message ts r ∷ [])) rows, length-append ts (term_of_row message ts r ∷ []))

  terms_kept : (ts : List Term) (rows : List Row) (j : ℕ) → j < length ts → get_or (terms_after message ts rows) j no_term ≡ get_or ts j no_term
  unfolding terms_after
  terms_kept ts [] j h = refl
  terms_kept ts (r ∷ rows) j h =
      terms_kept (ts ++ (term_of_row message ts r ∷ [])) rows j (omega (arith, length-append ts (term_of_row message ts r ∷ [])))
      ∙ get_or-append ts (term_of_row message ts r ∷ []) no_term j h

  -- the term of row i, by its kind
  module _ (rows : List Row) (i : ℕ) (l : i < length rows) where
    abbrev r : Row
    r = row_at rows i

    abbrev term : ℕ → Term
    term j = term_at message rows j

    abbrev span : List ℕ
    span = span_of message r.first r.second

    -- the terms of the rows before it
    abbrev us : List Term
    us = terms_after message [] (take i rows)

    count : length us ≡ i
    count = omega (arith, terms_length [] (take i rows), length-take-le i rows (omega arith))

    all : terms_after message [] rows ≡ terms_after message (us ++ (term_of_row message us r ∷ [])) (drop (suc i) rows)
    unfolding terms_after row_at
    all = ap (terms_after message []) (split_at rows i (row 0 0 0 0) l) ∙ terms_append [] (take i rows) (r ∷ drop (suc i) rows)

    made : term i ≡ term_of_row message us r
    unfolding term_at
    made =
        rw all (terms_kept (us ++ (term_of_row message us r ∷ [])) (drop (suc i) rows) i (omega (arith, count, length-append us (term_of_row message us r ∷ [])))
        ∙ get_or_at us (term_of_row message us r) [] no_term i count)

    earlier : (j : ℕ) → j < i → get_or us j no_term ≡ term j
    unfolding term_at
    earlier j h =
        rw all (sym (terms_kept (us ++ (term_of_row message us r ∷ [])) (drop (suc i) rows) j (omega (arith, count, length-append us (term_of_row message us r ∷ [])))
        ∙ get_or-append us (term_of_row message us r ∷ []) no_term j (omega (arith, count))))

    pub integer-term : r.kind ≡ integer_kind → term i ≡ T.int (integer_of_row r)
    unfolding term_of_row
    integer-term k = made ∙ rw k

    pub atom-term : r.kind ≡ atom_kind → term i ≡ T.atom span
    unfolding term_of_row
    atom-term k = made ∙ rw k

    pub string-term : r.kind ≡ string_kind → term i ≡ T.string span
    unfolding term_of_row
    string-term k = made ∙ rw k

    pub binary-term : r.kind ≡ binary_kind → term i ≡ T.binary span
    unfolding term_of_row
    binary-term k = made ∙ rw k

    pub nil-term : r.kind ≡ nil_kind → term i ≡ T.list T.none
    unfolding term_of_row
    nil-term k = made ∙ rw k

    pub end-term : r.kind ≡ end_kind → term i ≡ T.tuple T.none
    unfolding term_of_row
    end-term k = made ∙ rw k

    module _ (s : T (sound_row message i r)) where
      pub cons-term : r.kind ≡ cons_kind → term i ≡ T.list (term r.first then items_of (term r.second))
      unfolding term_of_row
      cons-term k = let e = cons-earlier i r s k in made ∙ rw k (ap₂ (λ (t u : Term). T.list (t then items_of u)) (earlier r.first e.0) (earlier r.second e.1))

      pub field_term : r.kind ≡ field_kind → term i ≡ T.tuple (term r.first then fields_of (term r.second))
      unfolding term_of_row
      field_term k = let e = field_earlier i r s k in made ∙ rw k (ap₂ (λ (t u : Term). T.tuple (t then fields_of u)) (earlier r.first e.0) (earlier r.second e.1))

      pub tag-term : r.kind ≡ tag_kind → term i ≡ T.tag span (term r.third)
      unfolding term_of_row
      tag-term k = made ∙ rw k (ap (T.tag span) (earlier r.third (tag-inner i r s k)))
