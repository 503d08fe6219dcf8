-- Two rows of sound tables are the same by their kinds, their own bytes and the classes of the rows that they name exactly where they stand for the same term.
use Prim.Native.Nat.{ℕ, ◌<◌}
use mathlib.Core.Path.{◌≡◌, refl, ap, ap₂, sym, ◌∙◌}
use mathlib.Core.Bool.{Bool, true, false, ◌&&◌}
use mathlib.Core.List.{List}
use native.Mathlib.Omega.{arith}
use lib.Dec.{T, eqb, ltb, leb, lt→ltb, le→leb}
use lib.ListN.{length}
use lib.Ieee.Fits.{and_i}
use borrow.Author.Tests.{eqb-true, eqb-false}
use Rattle.format.specs.Term as T
use Rattle.format.specs.Term.{Term, Terms, ◌then◌}
use Rattle.format.specs.Text.{plain}
use Rattle.format.specs.Meaning.{items_of}
use Rattle.format.specs.Rows.{Row, row_at, rows_of, row_room, integer_kind, atom_kind, string_kind, binary_kind, nil_kind, cons_kind, end_kind, field_kind, tag_kind, is_list_kind, is_tuple_kind, span_of, fields_of}
use Rattle.format.specs.Sound.{count_fits, root_among, sound_row, sound_rest, sound_table, sound_term}
use Rattle.format.proofs.SameBytes.{same_bytes_lem, same_refl}
use Rattle.format.proofs.SoundTerms.{table-term}
use Rattle.format.proofs.TableRows as R
use Rattle.format.proofs.TableRows.{length-rows, judged}
use Rattle.format.proofs.Tests.{either}
use Rattle.comparison.specs.Classes.{Side, Sound, term_in, same_term}
use Rattle.comparison.specs.Same.{placed, has_span, SpanInside, same_span, same_class, same_cell, same_content, same_row}
use Rattle.comparison.proofs.SameTerms.{never, both_of, same_of, same-is, same-term}

-- the kind of a term's row
abbrev list_kind : Terms → ℕ
list_kind T.none = nil_kind
list_kind (t then ts) = cons_kind

abbrev tuple_kind : Terms → ℕ
tuple_kind T.none = end_kind
tuple_kind (t then ts) = field_kind

abbrev kind_of : Term → ℕ
kind_of (T.int z) = integer_kind
kind_of (T.atom b) = atom_kind
kind_of (T.string b) = string_kind
kind_of (T.binary b) = binary_kind
kind_of (T.list ts) = list_kind ts
kind_of (T.tuple ts) = tuple_kind ts
kind_of (T.tag b t) = tag_kind

-- row i of a sound side
module _ (s : Side) (ok : Sound s) (i : ℕ) (l : i < s.used) where
  abbrev rows : List Row
  rows = rows_of s.used s.words

  abbrev r : Row
  r = row_at rows i

  among : i < length rows
  among = rw length-rows l

  own : T (sound_row s.message i r)
  own = (judged s.message rows ok.rows i among).own

  rest : T (sound_rest r.kind (row_at rows r.second).kind)
  rest = (judged s.message rows ok.rows i among).rest

  sound : T (sound_term (term_in s i))
  unfolding sound_table count_fits root_among
  sound = table-term s.message (omega (arith, ok.short)) s.words s.used i
      (and_i (leb s.used (row_room s.words) && ltb i s.used) _ (and_i (leb s.used (row_room s.words)) _ (le→leb s.used (row_room s.words) ok.count) (lt→ltb i s.used l)) ok.rows)

  of_kind : kind_of (term_in s i) ≡ r.kind
  of_kind =
      R.by_kind s.message i r own
      (λ k. rw (R.integer-term s.message rows i among k, k)) (λ k. rw (R.atom-term s.message rows i among k, k)) (λ k. rw (R.string-term s.message rows i among k, k))
      (λ k. rw (R.binary-term s.message rows i among k, k)) (λ k. rw (R.nil-term s.message rows i among k, k)) (λ k. rw (R.cons-term s.message rows i among own k, k))
      (λ k. rw (R.end-term s.message rows i among k, k)) (λ k. rw (R.field_term s.message rows i among own k, k)) (λ k. rw (R.tag-term s.message rows i among own k, k))

  -- a list is made of its items, a tuple of its fields
  is-list : T (is_list_kind r.kind) → term_in s i ≡ T.list (items_of (term_in s i))
  unfolding is_list_kind items_of
  is-list h =
      either r.kind nil_kind (λ k. rw (R.nil-term s.message rows i among k))
      (λ n. either r.kind cons_kind (λ k. rw (R.cons-term s.message rows i among own k)) (λ m. absurd (rw (n, m) at h)))

  is-tuple : T (is_tuple_kind r.kind) → term_in s i ≡ T.tuple (fields_of (term_in s i))
  unfolding is_tuple_kind fields_of
  is-tuple h =
      either r.kind end_kind (λ k. rw (R.end-term s.message rows i among k))
      (λ n. either r.kind field_kind (λ k. rw (R.field_term s.message rows i among own k)) (λ m. absurd (rw (n, m) at h)))

  -- its span lies in the slice
  pub span-inside : (base : ℕ) → SpanInside (placed s.message base r)
  unfolding has_span
  span-inside base h =
      either r.kind atom_kind (λ k. R.atom-inside s.message i r own k)
      (λ a. either r.kind string_kind (λ k. R.string-inside s.message i r own k)
      (λ b. either r.kind binary_kind (λ k. R.binary-inside s.message i r own k)
      (λ c. either r.kind tag_kind (λ k. R.tag-inside s.message i r own k) (λ d. absurd (rw (a, b, c, d) at h)))))

-- the rest of a list cell is a list, that of a tuple's field a tuple
module _ (s : Side) (ok : Sound s) (i : ℕ) (l : i < s.used) where
  abbrev cell : Row
  cell = row_at (rows_of s.used s.words) i

  list-rest : cell.kind ≡ cons_kind → term_in s cell.second ≡ T.list (items_of (term_in s cell.second))
  unfolding sound_rest
  list-rest k = is-list s ok cell.second (omega (arith, R.cons-earlier s.message i cell (own s ok i l) k)) (rw k at (rest s ok i l))

  tuple-rest : cell.kind ≡ field_kind → term_in s cell.second ≡ T.tuple (fields_of (term_in s cell.second))
  unfolding sound_rest
  tuple-rest k = is-tuple s ok cell.second (omega (arith, R.field_earlier s.message i cell (own s ok i l) k)) (rw k at (rest s ok i l))

-- row i of one side and row j of another, where the classes of earlier rows tell their terms apart
module _ (x y : Side) (ok_x : Sound x) (ok_y : Sound y) (classes : List ℕ) (base_x base_y i j : ℕ) (li : i < x.used) (lj : j < y.used)
    (known : (a b : ℕ) → a < i → b < j → same_class classes base_x a base_y b ≡ same_term (term_in x a) (term_in y b)) where
  abbrev row_x : Row
  row_x = row_at (rows_of x.used x.words) i

  abbrev row_y : Row
  row_y = row_at (rows_of y.used y.words) j

  abbrev span_x : List ℕ
  span_x = span_of x.message row_x.first row_x.second

  abbrev span_y : List ℕ
  span_y = span_of y.message row_y.first row_y.second

  abbrev Same : Bool → Type 0
  Same b = b ≡ same_term (term_in x i) (term_in y j)

  -- a test that passes exactly where the two terms are equal
  same : (b : Bool) → (b ≡ true → term_in x i ≡ term_in y j) → (term_in x i ≡ term_in y j → b ≡ true) → Same b
  same b f g = same-term _ _ (sound x ok_x i li) (sound y ok_y j lj) b f g

  -- two earlier rows have the same class exactly where their terms are equal
  module _ (a b : ℕ) (h : a < i) (g : b < j) where
    named : same_class classes base_x a base_y b ≡ true → term_in x a ≡ term_in y b
    named e = same-is (term_in x a) (term_in y b) (sound x ok_x a (omega arith)) (sound y ok_y b (omega arith)) (sym (known a b h g) ∙ e)

    same-named : term_in x a ≡ term_in y b → same_class classes base_x a base_y b ≡ true
    same-named e = known a b h g ∙ same_of (term_in x a) (term_in y b) (ap plain e)

  -- atoms, strings, binaries
  span_same : (wrap : List ℕ → Term) → ((a b : List ℕ) → wrap a ≡ wrap b → a ≡ b) → term_in x i ≡ wrap span_x → term_in y j ≡ wrap span_y → Same (same_span x.message row_x y.message row_y)
  unfolding same_span
  span_same wrap only tx ty =
      same _ (λ e. tx ∙ ap wrap (same_bytes_lem span_x span_y e) ∙ sym ty)
      (λ e. rw (only span_x span_y (sym tx ∙ e ∙ ty)) (same_refl span_y))

  -- lists and tuples: what they name first, and the rest
  cell_same : (wrap : Terms → Term) (parts : Term → Terms) → ((a b : Terms) → wrap a ≡ wrap b → a ≡ b)
      → (row_x.first < i) × (row_x.second < i) → (row_y.first < j) × (row_y.second < j)
      → term_in x i ≡ wrap (term_in x row_x.first then parts (term_in x row_x.second)) → term_in y j ≡ wrap (term_in y row_y.first then parts (term_in y row_y.second))
      → term_in x row_x.second ≡ wrap (parts (term_in x row_x.second)) → term_in y row_y.second ≡ wrap (parts (term_in y row_y.second))
      → Same (same_cell classes base_x row_x base_y row_y)
  unfolding same_cell
  cell_same wrap parts only h g tx ty rest_x rest_y =
      same _
      (λ e. let q = both_of _ _ e in
      tx ∙ ap₂ (λ (t u : Term). wrap (t then parts u)) (named row_x.first row_y.first h.0 g.0 q.0) (named row_x.second row_y.second h.1 g.1 q.1) ∙ sym ty)
      (λ e. let q : (term_in x row_x.first then parts (term_in x row_x.second)) ≡ (term_in y row_y.first then parts (term_in y row_y.second)) = only _ _ (sym tx ∙ e ∙ ty) in
      let first : term_in x row_x.first ≡ term_in y row_y.first = cc in
      let second : parts (term_in x row_x.second) ≡ parts (term_in y row_y.second) = cc in
      rw (same-named row_x.first row_y.first h.0 g.0 first, same-named row_x.second row_y.second h.1 g.1 (rest_x ∙ ap wrap second ∙ sym rest_y)))

  tag_same : row_x.third < i → row_y.third < j → term_in x i ≡ T.tag span_x (term_in x row_x.third) → term_in y j ≡ T.tag span_y (term_in y row_y.third)
      → Same (same_class classes base_x row_x.third base_y row_y.third && same_span x.message row_x y.message row_y)
  unfolding same_span
  tag_same h g tx ty =
      same _
      (λ e. let q = both_of _ _ e in tx ∙ ap₂ T.tag (same_bytes_lem span_x span_y q.1) (named row_x.third row_y.third h g q.0) ∙ sym ty)
      (λ e. let q : T.tag span_x (term_in x row_x.third) ≡ T.tag span_y (term_in y row_y.third) = sym tx ∙ e ∙ ty in
      let span : span_x ≡ span_y = cc in
      let inner : term_in x row_x.third ≡ term_in y row_y.third = cc in
      rw (same-named row_x.third row_y.third h g inner, span, same_refl span_y))

  -- rows of other kinds stand for other terms
  other-kind : (row_x.kind ≡ row_y.kind → ⊥) → same_term (term_in x i) (term_in y j) ≡ false
  other-kind d = never _ (λ e. d (sym (of_kind x ok_x i li) ∙ ap kind_of (same-is _ _ (sound x ok_x i li) (sound y ok_y j lj) e) ∙ of_kind y ok_y j lj))

  abbrev content : ℕ → Bool
  content kind = same_content kind classes (placed x.message base_x row_x) (placed y.message base_y row_y)

  -- rows of the same kind
  same_kind : row_x.kind ≡ row_y.kind → Same (content row_x.kind)
  unfolding same_content
  same_kind k =
      let among_x = among x ok_x i li in
      let among_y = among y ok_y j lj in
      let own_x = own x ok_x i li in
      let own_y = own y ok_y j lj in
      let rows_x = rows_of x.used x.words in
      let rows_y = rows_of y.used y.words in
      R.by_kind x.message i row_x own_x
      (λ q. ap content q ∙ ap₂ same_term (sym (R.integer-term x.message rows_x i among_x q)) (sym (R.integer-term y.message rows_y j among_y (sym k ∙ q))))
      (λ q. ap content q ∙ span_same T.atom (λ a b e. cc) (R.atom-term x.message rows_x i among_x q) (R.atom-term y.message rows_y j among_y (sym k ∙ q)))
      (λ q. ap content q ∙ span_same T.string (λ a b e. cc) (R.string-term x.message rows_x i among_x q) (R.string-term y.message rows_y j among_y (sym k ∙ q)))
      (λ q. ap content q ∙ span_same T.binary (λ a b e. cc) (R.binary-term x.message rows_x i among_x q) (R.binary-term y.message rows_y j among_y (sym k ∙ q)))
      (λ q. ap content q ∙ same true (λ e. R.nil-term x.message rows_x i among_x q ∙ sym (R.nil-term y.message rows_y j among_y (sym k ∙ q))) (λ e. refl))
      (λ q. ap content q ∙ cell_same T.list items_of (λ a b e. cc) (R.cons-earlier x.message i row_x own_x q) (R.cons-earlier y.message j row_y own_y (sym k ∙ q))
      (R.cons-term x.message rows_x i among_x own_x q) (R.cons-term y.message rows_y j among_y own_y (sym k ∙ q)) (list-rest x ok_x i li q) (list-rest y ok_y j lj (sym k ∙ q)))
      (λ q. ap content q ∙ same true (λ e. R.end-term x.message rows_x i among_x q ∙ sym (R.end-term y.message rows_y j among_y (sym k ∙ q))) (λ e. refl))
      (λ q. ap content q ∙ cell_same T.tuple fields_of (λ a b e. cc) (R.field_earlier x.message i row_x own_x q) (R.field_earlier y.message j row_y own_y (sym k ∙ q))
      (R.field_term x.message rows_x i among_x own_x q) (R.field_term y.message rows_y j among_y own_y (sym k ∙ q)) (tuple-rest x ok_x i li q) (tuple-rest y ok_y j lj (sym k ∙ q)))
      (λ q. ap content q ∙ tag_same (R.tag-inner x.message i row_x own_x q) (R.tag-inner y.message j row_y own_y (sym k ∙ q))
      (R.tag-term x.message rows_x i among_x own_x q) (R.tag-term y.message rows_y j among_y own_y (sym k ∙ q)))

  pub row_same : Same (same_row classes (placed x.message base_x row_x) (placed y.message base_y row_y))
  unfolding same_row
  row_same = by (eqb row_x.kind row_y.kind) refl
    where
      by : (b : Bool) → eqb row_x.kind row_y.kind ≡ b → Same (eqb row_x.kind row_y.kind && content row_x.kind)
      by true e = ap (λ (b : Bool). b && content row_x.kind) e ∙ same_kind (eqb-true row_x.kind row_y.kind e)
      by false e = ap (λ (b : Bool). b && content row_x.kind) e ∙ sym (other-kind (eqb-false row_x.kind row_y.kind e))
