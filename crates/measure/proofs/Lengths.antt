-- The lengths of rows' texts: each from those of earlier rows, and whether the root's has room.
use Prim.Native.Nat.{ℕ, ◌+◌, ◌≤◌, ◌<◌}
use Prim.Native.Char.{code}
use mathlib.Core.Path.{◌≡◌, refl, ap, sym, subst, ◌∙◌}
use mathlib.Core.Bool.{Bool, true, false, ◌||◌, ◌&&◌, cond}
use mathlib.Core.List.{List, [], ◌∷◌}
use native.Mathlib.Omega.{arith}
use lib.ListN.{length, set, take, drop, length-set, length-append, drop_of_length-le}
use lib.Seq.{get_or-set_same, get_or-set_other}
use lib.Dec.{eqb, leb, T}
use borrow.Author.Tests.{eqb-true, eqb-false, lt-leb}
use Rattle.format.specs.Bound.{row_bound}
use Rattle.format.specs.Meaning.{items_of}
use Rattle.format.specs.Term as T
use Rattle.format.specs.Term.{Term, Terms, ◌then◌}
use Rattle.format.specs.Text.{natural_on, between, text_on, items_on, fields_on, plain}
use Rattle.format.specs.Rows.{Row, row_at, span_of, fields_of, is_list_kind, is_tuple_kind, nil_kind, cons_kind, end_kind, field_kind, tag_kind, rows_of, row_room, term_at}
use Rattle.format.specs.Sound.{sound_row, sound_rest, sound_rows}
use Rattle.format.proofs.Sizes.{text_onto}
use Rattle.format.proofs.Lists.{length-span}
use Rattle.format.proofs.Tests.{either}
use Rattle.format.proofs.TableRows as R
use Rattle.format.proofs.TableRows.{length-rows, judged}
use Rattle.table.specs.Words.{row_in}
use Rattle.table.proofs.Rows.{row_of}
use Rattle.sound.proofs.Judged as J
use Rattle.measure.specs.Lengths.{text_length, named, below, own_length, total, row_length, longest, capped, length_in, Measured, lengths_after}
use Rattle.leaves.proofs.Leaves.{length-after, length-between, length-quoted}

module _ (r : Row) where
  -- its length with theirs
  module _ (length_of : ℕ → ℕ) where
    pub cons-length : r.kind ≡ cons_kind → row_length length_of r ≡ length_of r.first + length_of r.second + 1
    unfolding row_length total named own_length
    cons-length k = rw k (omega arith)

    pub field_length : r.kind ≡ field_kind → row_length length_of r ≡ length_of r.first + length_of r.second
    unfolding row_length total named own_length
    field_length k = rw k (omega arith)

    pub tag-length : r.kind ≡ tag_kind → row_length length_of r ≡ length_of r.third + (r.second + 2)
    unfolding row_length total named own_length
    tag-length k = rw k (omega arith)

    -- where it names none
    pub leaf-length : named r ≡ [] → row_length length_of r ≡ own_length r
    unfolding row_length total
    leaf-length e = rw e (omega arith)

-- a text in front of a rest
pub text-after : (t : Term) (rest : List ℕ) → length (text_on t rest) ≡ text_length t + length rest
text-after t rest = ap length (text_onto t [] rest) ∙ length-append (text_on t []) rest

-- a term's length by its parts'
module _ (t : Term) (ts : Terms) where
  list_length : text_length (T.list (t then ts)) ≡ text_length t + text_length (T.list ts) + 1
  unfolding text_on items_on
  list_length = omega (arith, text-after (T.list ts) (text_on t (code "&" ∷ [])), text-after t (code "&" ∷ []))

  tuple-length : text_length (T.tuple (t then ts)) ≡ text_length t + text_length (T.tuple ts)
  unfolding text_on fields_on
  tuple-length = omega (arith, text-after t (fields_on ts (code "}" ∷ [])))

tagged_length : (b : List ℕ) (t : Term) → text_length (T.tag b t) ≡ text_length t + (length b + 2)
unfolding text_on
tagged_length b t = omega (arith, text-after t (between (code "`") b []), length-between (code "`") b)

-- a sound row names no row, one or two, all of them earlier
pub by_names : (message : List ℕ) (i : ℕ) (r : Row) → T (sound_row message i r) → (P : List ℕ → Type 0)
    → P [] → ((a : ℕ) → a < i → P (a ∷ [])) → ((a b : ℕ) → a < i → b < i → P (a ∷ b ∷ [])) → P (named r)
unfolding named
by_names message i r s P none one two =
    let both : (r.first < i) × (r.second < i) → P (r.first ∷ r.second ∷ []) = λ e. two r.first r.second e.0 e.1 in
    R.by_kind message i r s
    (λ k. rw k none)
    (λ k. rw k none)
    (λ k. rw k none)
    (λ k. rw k none)
    (λ k. rw k none)
    (λ k. rw k (both (R.cons-earlier message i r s k)))
    (λ k. rw k none)
    (λ k. rw k (both (R.field_earlier message i r s k)))
    (λ k. rw k (one r.third (R.tag-inner message i r s k)))

module _ (message : List ℕ) (rows : List Row) (sound : T (sound_rows message rows)) where
  abbrev term : ℕ → Term
  term i = term_at message rows i

  -- a list is one of its items, a tuple one of its fields
  module _ (j : ℕ) (l : j < length rows) where
    pub list-again : T (is_list_kind (row_at rows j).kind) → T.list (items_of (term j)) ≡ term j
    unfolding is_list_kind items_of
    list-again h = by (eqb (row_at rows j).kind nil_kind) (eqb (row_at rows j).kind cons_kind) refl refl h
      where
        by : (a b : Bool) → eqb (row_at rows j).kind nil_kind ≡ a → eqb (row_at rows j).kind cons_kind ≡ b → T (a || b)
            → T.list (items_of (term j)) ≡ term j
        by true b p q h = rw (R.nil-term message rows j l (eqb-true _ _ p))
        by false true p q h = rw (R.cons-term message rows j l (judged message rows sound j l).own (eqb-true _ _ q))
        by false false p q h = absurd h

    tuple-again : T (is_tuple_kind (row_at rows j).kind) → T.tuple (fields_of (term j)) ≡ term j
    unfolding is_tuple_kind fields_of
    tuple-again h = by (eqb (row_at rows j).kind end_kind) (eqb (row_at rows j).kind field_kind) refl refl h
      where
        by : (a b : Bool) → eqb (row_at rows j).kind end_kind ≡ a → eqb (row_at rows j).kind field_kind ≡ b → T (a || b)
            → T.tuple (fields_of (term j)) ≡ term j
        by true b p q h = rw (R.end-term message rows j l (eqb-true _ _ p))
        by false true p q h = rw (R.field_term message rows j l (judged message rows sound j l).own (eqb-true _ _ q))
        by false false p q h = absurd h

  -- row i
  module _ (i : ℕ) (l : i < length rows) where
    abbrev r : Row
    r = row_at rows i

    abbrev span : List ℕ
    span = span_of message r.first r.second

    s : T (sound_row message i r)
    s = (judged message rows sound i l).own

    t : T (sound_rest r.kind (row_at rows r.second).kind)
    t = (judged message rows sound i l).rest

    abbrev Right : Type 0
    Right = text_length (term i) ≡ row_length (λ j. text_length (term j)) r

    -- a row that names no other
    leaf : (x : Term) → term i ≡ x → named r ≡ [] → own_length r ≡ text_length x → Right
    leaf x e none own = ap text_length e ∙ sym (leaf-length r _ none ∙ own)

    quoted : (quote : ℕ) → r.first + r.second ≤ length message → length (between quote span []) ≡ r.second + 2
    quoted = length-quoted message r.first r.second

    counted : r.first + r.second ≤ length message → text_length (T.binary span) ≡ length (natural_on r.second []) + (r.second + 2)
    unfolding text_on
    counted h = rw (length-span message r.first r.second h) (omega (arith, length-after r.second (between (code "~") span []), quoted (code "~") h))

    row_cons : r.kind ≡ cons_kind → Right
    unfolding sound_rest
    row_cons k =
        let e = R.cons-earlier message i r s k in
        let again : T.list (items_of (term r.second)) ≡ term r.second = list-again r.second (omega (arith, e.1)) (rw k at t) in
        let text = list_length (term r.first) (items_of (term r.second)) in
        ap text_length (R.cons-term message rows i l s k) ∙ rw again at text ∙ sym (cons-length r _ k)

    row_field : r.kind ≡ field_kind → Right
    unfolding sound_rest
    row_field k =
        let e = R.field_earlier message i r s k in
        let again : T.tuple (fields_of (term r.second)) ≡ term r.second = tuple-again r.second (omega (arith, e.1)) (rw k at t) in
        let text = tuple-length (term r.first) (fields_of (term r.second)) in
        ap text_length (R.field_term message rows i l s k) ∙ rw again at text ∙ sym (field_length r _ k)

    row-tag : r.kind ≡ tag_kind → Right
    row-tag k =
        let n = length-span message r.first r.second (R.tag-inside message i r s k) in
        ap text_length (R.tag-term message rows i l s k) ∙ tagged_length span (term r.third) ∙ rw n (sym (tag-length r _ k))

    -- its length is that of its text
    pub right : Right
    unfolding named own_length text_on
    right =
        R.by_kind message i r s
        (λ k. leaf _ (R.integer-term message rows i l k) (rw k) (rw k refl))
        (λ k. leaf _ (R.atom-term message rows i l k) (rw k) (rw k (sym (quoted (code "'") (R.atom-inside message i r s k)))))
        (λ k. leaf _ (R.string-term message rows i l k) (rw k) (rw k (sym (quoted (code "\"") (R.string-inside message i r s k)))))
        (λ k. leaf _ (R.binary-term message rows i l k) (rw k) (rw k (sym (counted (R.binary-inside message i r s k)))))
        (λ k. leaf _ (R.nil-term message rows i l k) (rw k) (rw k))
        row_cons
        (λ k. leaf _ (R.end-term message rows i l k) (rw k) (rw k))
        row_field
        row-tag

    -- from lengths in words it is as much as a word holds
    pub capped-right : (lengths : List ℕ) → Measured message rows lengths i → capped (row_length (length_in lengths) r) ≡ capped (text_length (term i))
    unfolding row_length total capped
    capped-right lengths m = rw right
        (by_names message i r s (λ js. capped (total (length_in lengths) js + own_length r) ≡ capped (total (λ j. text_length (term j)) js + own_length r))
        refl
        (λ a h. rw (m a h) (omega arith))
        (λ a b h g. rw (m a h, m b g) (omega arith)))

-- words: the table; the lengths have a word for each row used
module _ (message words : List ℕ) (used : ℕ) where
  abbrev rows' : List Row
  rows' = rows_of used words

  -- the words once the rows from i on are judged too
  abbrev from : ℕ → List ℕ → List ℕ
  from i lengths = lengths_after message (take i rows') (drop i rows') lengths

  from-ends : (i : ℕ) (lengths : List ℕ) → used ≤ i → from i lengths ≡ lengths
  unfolding lengths_after
  from-ends i lengths h = rw (drop_of_length-le rows' {i = i} (rw length-rows h))

  module _ (fits : used ≤ row_room words) (i : ℕ) (h : i < used) (r : Row) (own : r ≡ row_in words i) (lengths : List ℕ) where
    from_row : from i lengths
        ≡ cond (sound_row message i r && sound_rest r.kind (row_at (take i rows') r.second).kind)
        (from (i + 1) (set lengths i (capped (row_length (length_in lengths) r)))) lengths
    unfolding lengths_after
    from_row = rw (J.rows-from message words used fits i h r own, J.rows_before message words used fits i h r own, J.count-before message words used fits i h r own)

    from-row_fails : sound_row message i r ≡ false → from i lengths ≡ lengths
    from-row_fails e = from_row ∙ rw e

    module _ (sound : sound_row message i r ≡ true) where
      from-rest_fails : sound_rest r.kind (row_in words r.second).kind ≡ false → from i lengths ≡ lengths
      from-rest_fails e = from_row ∙ rw (sound, J.rest-same message words used fits i h r own sound, e)

      from-passes : sound_rest r.kind (row_in words r.second).kind ≡ true
          → from i lengths ≡ from (i + 1) (set lengths i (capped (row_length (length_in lengths) r)))
      from-passes e = from_row ∙ rw (sound, J.rest-same message words used fits i h r own sound, e)

  -- the rows before row i are judged, and measured where all rows are sound
  pub record Measuring (lengths₀ lengths : List ℕ) (i : ℕ) : Type 0 where
    pub fits : used ≤ row_room words
    pub same : length lengths ≡ used
    pub after : from i lengths ≡ from 0 lengths₀
    pub judged_to : J.from message words used i ≡ sound_rows message rows'
    pub measured : T (sound_rows message rows') → Measured message rows' lengths i

  pub begins : used ≤ row_room words → (lengths : List ℕ) → length lengths ≡ used → Measuring lengths lengths 0
  begins f lengths e = record { fits = f; same = e; after = refl; judged_to = J.begins message words used; measured = λ s j h. absurd (omega arith) }

  -- what is promised of an answer and the lengths left
  abbrev Judged : Bool → List ℕ → List ℕ → Type 0
  Judged answer lengths₀ lengths =
      (answer ≡ sound_rows message rows')
      × ((T (sound_rows message rows') → Measured message rows' lengths used)
      × (lengths ≡ lengths_after message [] rows' lengths₀))

  unsound : (lengths₀ lengths : List ℕ) → false ≡ sound_rows message rows' → lengths ≡ from 0 lengths₀ → Judged false lengths₀ lengths
  unsound lengths₀ lengths e q = (e, (λ s j l. absurd (subst T (sym e) s), q))

  module _ (lengths₀ lengths : List ℕ) (i : ℕ) (m : Measuring lengths₀ lengths i) where
    pub row_number : i < length lengths → i < row_bound
    unfolding row_room
    row_number h = omega (arith, m.fits, m.same)

    pub all_judged : length lengths ≤ i → Judged true lengths₀ lengths
    all_judged h =
        let all : used ≤ i = omega (arith, m.same) in
        (sym (J.ends message words used i all) ∙ m.judged_to, (λ s j l. m.measured s j (omega arith), sym (from-ends i lengths all) ∙ m.after))

    -- row i
    module _ (h : i < length lengths) {r : Row} (read : r ≡ row_in words i) where
      row' : r ≡ row_at rows' i
      row' = read ∙ row_of words used i m.fits (omega (arith, m.same))

      within : i < used
      within = omega (arith, m.same)

      pub row_fails : sound_row message i r ≡ false → Judged false lengths₀ lengths
      row_fails e =
          unsound lengths₀ lengths (sym (J.row_fails message words used m.fits i within r read e) ∙ m.judged_to)
          (sym (from-row_fails m.fits i within r read lengths e) ∙ m.after)

      module _ (own : sound_row message i r ≡ true) where
        sound-row : T (sound_row message i r)
        sound-row = subst T (sym own) tt

        -- the rows that it names have words
        pub names-before : below (length lengths) (named r)
        names-before = by_names message i r sound-row (below (length lengths)) tt (λ a p. (omega arith, tt)) (λ a b p q. (omega arith, (omega arith, tt)))

        -- its rest is a row before
        pub rest-room : (r.kind ≡ cons_kind → r.second < row_room words) × (r.kind ≡ field_kind → r.second < row_room words)
        rest-room = (J.cons-room message words used m.fits i within r read own, J.field_room message words used m.fits i within r read own)

        pub rest_fails : sound_rest r.kind (row_in words r.second).kind ≡ false → Judged false lengths₀ lengths
        rest_fails e =
            unsound lengths₀ lengths (sym (J.rest_fails message words used m.fits i within r read own e) ∙ m.judged_to)
            (sym (from-rest_fails m.fits i within r read lengths own e) ∙ m.after)

        pub next_row : sound_rest r.kind (row_in words r.second).kind ≡ true → {n word : ℕ} → n ≡ row_length (length_in lengths) r
            → word ≡ capped n → Measuring lengths₀ (set lengths i word) (i + 1)
        next_row rest {n} {word} e w = record {
          fits = m.fits;
          same = length-set lengths i word ∙ m.same;
          after = rw (w, e) (sym (from-passes m.fits i within r read lengths own rest) ∙ m.after);
          judged_to = sym (J.passes message words used m.fits i within r read own rest) ∙ m.judged_to;
          measured = λ s j l.
              either j i (λ q. rw q (get_or-set_same lengths i word 0 h ∙ its_own s)) (λ q.
              let other = eqb-false j i q in
              get_or-set_other lengths i j word 0 other ∙ m.measured s j (omega arith));
        }
          where
            its_own : T (sound_rows message rows') → word ≡ capped (text_length (term_at message rows' i))
            its_own s = w ∙ ap capped e ∙ rw row' (capped-right message rows' s i (omega (arith, m.same, length-rows used words)) lengths (m.measured s))

-- whether a plain text has room, by the length of its text in a word
module _ (t : Term) (room n : ℕ) (e : n ≡ capped (text_length t)) where
  pub exact : n < longest → leb (n + 1) room ≡ leb (length (plain t)) room
  unfolding plain capped
  exact h = let count : length (plain t) ≡ n + 1 = omega (arith, text-after t (code "$" ∷ []), e) in rw count

  pub too_long : longest ≤ n → room ≤ longest → false ≡ leb (length (plain t)) room
  unfolding plain capped
  too_long h g = sym (lt-leb (length (plain t)) room (omega (arith, text-after t (code "$" ∷ []), e)))
