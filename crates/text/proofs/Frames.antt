-- The frames of the walk, and the texts of rows by the rows that they name.
use Prim.Native.Nat.{ℕ, suc, ◌+◌, ◌-◌, ◌≤◌, ◌<◌}
use Prim.Native.Char.{code}
use mathlib.Core.Path.{◌≡◌, refl, ap, sym}
use mathlib.Core.Bool.{Bool, true, false, ◌||◌}
use mathlib.Core.List.{List, [], ◌∷◌, ◌++◌}
use native.Mathlib.Omega.{arith}
use lib.IntN.{ℤ, pos, negsuc}
use lib.ListN.{length, get_or}
use lib.Dec.{T, eqb}
use borrow.Author.Tests.{eqb-true, lt-ltb, le-ltb}
use Rattle.format.specs.Bound.{row_bound}
use Rattle.format.specs.Term as T
use Rattle.format.specs.Term.{Term}
use Rattle.format.specs.Text.{natural_on, decimal_on, between, text_on, items_on, fields_on}
use Rattle.format.specs.Rows.{Row, row_at, row_room, span_of, fields_of, integer_of_row}
use Rattle.format.specs.Rows.{is_list_kind, is_tuple_kind, binary_kind, cons_kind, end_kind, field_kind, tag_kind}
use Rattle.format.specs.Sound.{sound_row, sound_rest}
use Rattle.format.proofs.Lists.{length-span}
use Rattle.format.proofs.Sizes.{natural_onto, between_onto, text_onto}
use Rattle.format.proofs.TableRows as R
use Rattle.format.proofs.TableRows.{length-rows, judged}
use Rattle.table.specs.Words.{row_in, last_first}
use Rattle.table.proofs.Rows.{row_of}
use Rattle.leaves.proofs.Leaves.{length-after}
use Rattle.measure.proofs.Lengths.{list-again}
use Rattle.leaves.specs.Leaves.{is_leaf_kind, is_span_kind, quote_of, count_bytes, span_bytes, leaf_bytes, Inside}
use Rattle.text.specs.declared.rows.SoundRows.{SoundRows}
use Rattle.text.specs.Rows.{rows_used, term_of}
use Rattle.text.specs.Walk.{open_bytes, first_named, frame_row, frame_on, Frame, of_cell, of_field, of_tag, Above, Falling}

-- no number's text is empty, whatever follows it
natural-some : (n b : ℕ) (rest : List ℕ) → 1 ≤ length (natural_on n (b ∷ rest))
natural-some n b rest = omega (arith, length-after n (b ∷ rest))

integer-some : (z : ℤ) → 1 ≤ length (text_on (T.int z) [])
unfolding text_on decimal_on
integer-some (pos n) = natural-some n (code " ") []
integer-some (negsuc n) = omega arith

-- the row of a frame, with its item begun or not
module _ (i : ℕ) (h : i < row_bound) where
  pub row-frame : frame_row i ≡ i
  unfolding frame_row
  row-frame = omega arith

  pub begun-frame : frame_row (i + row_bound) ≡ i
  unfolding frame_row
  begun-frame = omega arith

-- the top frame of a stack, and those below it
pub top-first : (stack : List ℕ) (depth : ℕ) → 0 < depth → last_first stack depth ≡ get_or stack (depth - 1) 0 ∷ last_first stack (depth - 1)
unfolding last_first
top-first stack depth h = let e : depth ≡ suc (depth - 1) = omega arith in ap (last_first stack) e

module _ (t : SoundRows) where
  -- a row and the frames below it are fewer than the rows used
  pub above-inside : (i : ℕ) (frames : List ℕ) → Above t i frames → i + length frames < t.used
  above-inside i [] h = omega arith
  above-inside i (e ∷ frames) h = omega (arith, h.0, above-inside (frame_row e) frames h.1.1)

  pub above-used : (i : ℕ) (frames : List ℕ) → Above t i frames → i < t.used
  above-used i frames h = omega (arith, above-inside i frames h)

  -- the table has room for the row, as for each row used
  pub above-room : (i : ℕ) (frames : List ℕ) → Above t i frames → i < row_room t.rows.now
  above-room i frames h = omega (arith, above-inside i frames h, t.fits)

  pub above_lower : (c i : ℕ) (frames : List ℕ) → c < i → Above t i frames → Above t c frames
  above_lower c i [] l h = omega arith
  above_lower c i (e ∷ frames) l h = (omega (arith, h.0), h.1)

  pub falling_below : (i : ℕ) (frames : List ℕ) → Above t i frames → Falling t frames
  falling_below i [] h = tt
  falling_below i (e ∷ frames) h = h.1

  -- the rows used
  abbrev rows : List Row
  rows = rows_used t

  abbrev message : List ℕ
  message = t.message.now

  abbrev term : ℕ → Term
  term i = term_of t i

  pub row-bound : (i : ℕ) → i < t.used → i < row_bound
  unfolding row_room
  row-bound i l = omega (arith, t.fits)

  module _ (i : ℕ) (l : i < t.used) where
    abbrev r : Row
    r = row_at rows i

    inside : i < length rows
    inside = omega (arith, length-rows t.used t.rows.now)

    own : T (sound_row message i r)
    own = (judged message rows t.sound i inside).own

    rest : T (sound_rest r.kind (row_at rows r.second).kind)
    rest = (judged message rows t.sound i inside).rest

    -- as it is read
    pub found : row_in t.rows.now i ≡ r
    found = row_of t.rows.now t.used i t.fits l

    -- its span, where it has one, lies in the slice
    leaf-inside : Inside message r
    unfolding Inside
    leaf-inside = (R.atom-inside message i r own, (R.string-inside message i r own, R.binary-inside message i r own))

    pub tag-inside : r.kind ≡ tag_kind → r.first + r.second ≤ length message
    tag-inside k = R.tag-inside message i r own k

    -- the rows that a cell names are earlier ones
    pub cell-names : r.kind ≡ cons_kind → (r.first < i) × (r.second < i)
    cell-names k = R.cons-earlier message i r own k

    pub field_names : r.kind ≡ field_kind → (r.first < i) × (r.second < i)
    field_names k = R.field_earlier message i r own k

    -- the rest of a list cell is a list, that of a tuple's field a tuple
    pub field_rest : r.kind ≡ field_kind → T (is_tuple_kind (row_at rows r.second).kind)
    unfolding sound_rest
    field_rest k = rw k at rest

    list-rest : r.kind ≡ cons_kind → T (is_list_kind (row_at rows r.second).kind)
    unfolding sound_rest
    list-rest k = rw k at rest

  -- row i
  module _ (i : ℕ) (l : i < t.used) (more : List ℕ) where
    abbrev r' : Row
    r' = row_at rows i

    abbrev span : List ℕ
    span = span_of message r'.first r'.second

    -- its text, by its kind
    cons-text : r'.kind ≡ cons_kind → text_on (term i) more ≡ text_on (term r'.second) (text_on (term r'.first) (code "&" ∷ more))
    unfolding text_on items_on
    cons-text k =
        let earlier = R.cons-earlier message i r' (own i l) k in
        let again = list-again message rows t.sound r'.second (inside r'.second (omega (arith, earlier.1))) (list-rest i l k) in
        rw (R.cons-term message rows i (inside i l) (own i l) k) (ap (λ (x : Term). text_on x (text_on (term r'.first) (code "&" ∷ more))) again)

    field_text : r'.kind ≡ field_kind → text_on (term i) more ≡ code "{" ∷ text_on (term r'.first) (fields_on (fields_of (term r'.second)) (code "}" ∷ more))
    unfolding text_on fields_on
    field_text k = rw (R.field_term message rows i (inside i l) (own i l) k)

    tag-text : r'.kind ≡ tag_kind → text_on (term i) more ≡ text_on (term r'.third) (between (code "`") span [] ++ more)
    unfolding text_on
    tag-text k = rw (R.tag-term message rows i (inside i l) (own i l) k) (ap (text_on (term r'.third)) (between_onto (code "`") span [] more))

    -- its fields, where it is a tuple or the rest of one
    pub more_fields : r'.kind ≡ field_kind → fields_on (fields_of (term i)) more ≡ text_on (term r'.first) (fields_on (fields_of (term r'.second)) more)
    unfolding fields_on fields_of
    more_fields k = rw (R.field_term message rows i (inside i l) (own i l) k)

    pub no_fields : T (is_tuple_kind r'.kind) → (r'.kind ≡ field_kind → ⊥) → fields_on (fields_of (term i)) more ≡ more
    unfolding is_tuple_kind fields_on fields_of
    no_fields h n = by (eqb r'.kind end_kind) (eqb r'.kind field_kind) refl refl h
      where
        by : (a b : Bool) → eqb r'.kind end_kind ≡ a → eqb r'.kind field_kind ≡ b → T (a || b) → fields_on (fields_of (term i)) more ≡ more
        by true b p q h = rw (R.end-term message rows i (inside i l) (eqb-true _ _ p))
        by false true p q h = absurd (n (eqb-true _ _ q))
        by false false p q h = absurd h

    -- what is still to come of its frame
    module _ (e : ℕ) (f : frame_row e ≡ i) where
      pub item-frame : r'.kind ≡ cons_kind → e < row_bound → frame_on t e more ≡ text_on (term r'.first) (code "&" ∷ more)
      unfolding frame_on
      item-frame k h = rw (f, k, lt-ltb e row_bound h)

      pub begun-item_frame : r'.kind ≡ cons_kind → row_bound ≤ e → frame_on t e more ≡ code "&" ∷ more
      unfolding frame_on
      begun-item_frame k h = rw (f, k, le-ltb e row_bound h)

      pub field_frame : r'.kind ≡ field_kind → frame_on t e more ≡ fields_on (fields_of (term r'.second)) (code "}" ∷ more)
      unfolding frame_on
      field_frame k = rw (f, k)

      pub tag-frame : r'.kind ≡ tag_kind → frame_on t e more ≡ between (code "`") span [] ++ more
      unfolding frame_on
      tag-frame k = rw (f, k) (between_onto (code "`") span [] more)

    -- it is a leaf, whose text is its own, or its text goes on with that of an earlier row
    pub record Leaf (r : Row) : Type 0 where
      pub inside : Inside message r
      pub text : text_on (term i) more ≡ leaf_bytes message r ++ more
      pub some : 1 ≤ length (leaf_bytes message r)

    pub record Inner (r : Row) : Type 0 where
      pub frame : Frame t i
      pub earlier : first_named r < i
      pub text : text_on (term i) more ≡ open_bytes r ++ text_on (term (first_named r)) (frame_on t i more)

    abbrev Text : Type 0
    Text = (is_leaf_kind r'.kind ≡ true → Leaf r') × (is_leaf_kind r'.kind ≡ false → Inner r')

    leaf : (x : Term) → term i ≡ x → is_leaf_kind r'.kind ≡ true → leaf_bytes message r' ≡ text_on x [] → 1 ≤ length (text_on x []) → Text
    leaf x e k b n = (λ h. record { inside = leaf-inside i l; text = rw (e, b) (text_onto x [] more); some = rw b n }, λ h. cc)

    inner : is_leaf_kind r'.kind ≡ false → Inner r' → Text
    inner k x = (λ h. cc, λ h. x)

    text : Text
    unfolding is_leaf_kind is_span_kind quote_of count_bytes span_bytes leaf_bytes open_bytes first_named text_on
    text =
        let at : i < row_bound = row-bound i l in
        let self : frame_row i ≡ i = row-frame i at in
        let counted : (k : r'.kind ≡ binary_kind) → natural_on r'.second [] ++ between (code "~") span [] ≡ text_on (T.binary span) []
        = λ k. rw (length-span message r'.first r'.second (R.binary-inside message i r' (own i l) k))
        (sym (natural_onto r'.second [] (between (code "~") span []))) in
        R.by_kind message i r' (own i l)
        (λ k. leaf _ (R.integer-term message rows i (inside i l) k) (rw k) (rw k) (integer-some (integer_of_row r')))
        (λ k. leaf _ (R.atom-term message rows i (inside i l) k) (rw k) (rw k) (omega arith))
        (λ k. leaf _ (R.string-term message rows i (inside i l) k) (rw k) (rw k) (omega arith))
        (λ k. leaf _ (R.binary-term message rows i (inside i l) k) (rw k) (rw k (counted k)) (natural-some (length span) (code "~") (span ++ code "~" ∷ [])))
        (λ k. leaf _ (R.nil-term message rows i (inside i l) k) (rw k) (rw k) (omega arith))
        (λ k. inner (rw k) (record {
          frame = (of_cell (rw (self, k)));
          earlier = (rw k (R.cons-earlier message i r' (own i l) k).1);
          text = (rw (k, item-frame i self k at) (cons-text k));
        }))
        (λ k. leaf _ (R.end-term message rows i (inside i l) k) (rw k) (rw k) (omega arith))
        (λ k. inner (rw k) (record {
          frame = (of_field (rw (self, k)));
          earlier = (rw k (R.field_earlier message i r' (own i l) k).0);
          text = (rw (k, field_frame i self k) (field_text k));
        }))
        (λ k. inner (rw k) (record {
          frame = (of_tag (rw (self, k)));
          earlier = (rw k (R.tag-inner message i r' (own i l) k));
          text = (rw (k, tag-frame i self k) (tag-text k));
        }))

    -- the same by the row's words, as they were read
    pub leaf_read : {r : Row} → r ≡ r' → is_leaf_kind r.kind ≡ true → Leaf r
    leaf_read e k = rw e (text.0 (rw e at k))

    pub inner_read : {r : Row} → r ≡ r' → is_leaf_kind r.kind ≡ false → Inner r
    inner_read e k = rw e (text.1 (rw e at k))
