-- The fields of a tuple stored one after another, up to one that is no leaf.
use Prim.Native.Nat.{ℕ, ◌+◌, ◌≤◌, ◌<◌}
use Prim.Native.Char.{code}
use mathlib.Core.Path.{◌≡◌, refl, ap, sym, ◌∙◌}
use mathlib.Core.Bool.{true}
use mathlib.Core.List.{List, [], ◌∷◌, ◌++◌}
use native.Mathlib.Omega.{arith}
use lib.ListN.{length, set}
use lib.Dec.{T}
use lib.Seq.{sets, length-sets}
use Rattle.std.specs.Prelude.{Some, None}
use Rattle.format.specs.Text.{text_on}
use Rattle.format.specs.Rows.{Row, row_room, is_tuple_kind, field_kind}
use Rattle.table.specs.Words.{last_first, row_in}
use Rattle.table.proofs.Rows.{length-last_first}
use Rattle.leaves.specs.Leaves.{is_leaf_kind, leaf_bytes, Inside}
use Rattle.text.specs.declared.rows.SoundRows.{SoundRows}
use Rattle.text.specs.Rows.{row_used, term_of}
use Rattle.text.specs.Walk.{frame_row, frame_on, pending, coming, coming_fields, of_field, Above, Partly}
use Rattle.text.proofs.Partly.{part_none, part_then, part_room, put_fits, part_put}
use Rattle.text.proofs.Frames.{Leaf, above-inside, above-used, above-room, above_lower, falling_below, row-bound, row-frame, found, leaf_read}
use Rattle.text.proofs.Frames.{field_names, field_rest, more_fields, no_fields, field_frame}
use Rattle.text.proofs.Turned.{Turned, turned-done, turned-above}

-- the stack, the output, the first field's row and where the text goes on, at first
module _ (t : SoundRows) (stack₀ output₀ : List ℕ) (depth n₀ end₀ : ℕ) where
  -- the fields from row n on, which has the words r, are still to come
  pub record Fielding (stack output : List ℕ) (n : ℕ) (r : Row) (end : ℕ) : Type 0 where
    pub same : stack ≡ stack₀
    pub room : end + length (coming_fields t n (last_first stack₀ depth)) ≤ length output
    pub read : r ≡ row_used t n
    pub tuple : T (is_tuple_kind (row_used t n).kind)
    pub above : Above t n (last_first stack₀ depth)
    pub part : Partly output₀ end₀ (coming_fields t n₀ (last_first stack₀ depth)) output end (coming_fields t n (last_first stack₀ depth))

  pub starts : {r : Row} → Above t n₀ (last_first stack₀ depth) → T (is_tuple_kind (row_in t.rows.now n₀).kind)
      → end₀ + length (coming_fields t n₀ (last_first stack₀ depth)) ≤ length output₀
      → r ≡ row_in t.rows.now n₀ → Fielding stack₀ output₀ n₀ r end₀
  starts above tuple room read =
      let found₀ = found t n₀ (above-used t n₀ (last_first stack₀ depth) above) in
      record {
        same = refl;
        room = room;
        read = read ∙ found₀;
        tuple = rw found₀ at tuple;
        above = above;
        part = part_none output₀ end₀ _;
      }

module _ {t : SoundRows} {stack₀ output₀ : List ℕ} {depth n₀ end₀ : ℕ} {stack output : List ℕ} {n : ℕ} {r : Row} {end : ℕ}
    (w : Fielding t stack₀ output₀ depth n₀ end₀ stack output n r end) where
  abbrev below : List ℕ
  below = last_first stack₀ depth

  abbrev text₀ : List ℕ
  text₀ = coming_fields t n₀ below

  inside : n < t.used
  inside = above-used t n below w.above

  -- the stack has room for the tuple's frame
  pub frame-fits : t.used ≤ length stack → depth < length stack
  frame-fits h = omega (arith, above-inside t n below w.above, length-last_first stack₀ depth)

  -- a field, and the rows that it names
  module _ (k : r.kind ≡ field_kind) where
    is_field : (row_used t n).kind ≡ field_kind
    is_field = rw w.read at k

    pub earlier : (r.first < n) × (r.second < n)
    earlier = rw w.read (field_names t n inside is_field)

    first-inside : r.first < t.used
    first-inside = omega (arith, earlier.0, inside)

    pub names-room : (r.first < row_room t.rows.now) × (r.second < row_room t.rows.now)
    names-room =
        let own = above-room t n below w.above in
        (omega (arith, earlier.0, own), omega (arith, earlier.1, own))

    -- the first of them has the words f
    module _ {f : Row} (g : f ≡ row_in t.rows.now r.first) where
      text : coming_fields t n below ≡ text_on (term_of t r.first) (coming_fields t r.second below)
      text = rw w.read (more_fields t n inside (code "}" ∷ pending t below) is_field)

      -- it is no leaf: it comes next, above the frame of its row
      pub into : depth < length stack → Turned t output₀ end₀ text₀ (set stack depth n) output (Some (record { 0 = r.first })) (depth + 1) end
      unfolding pending
      into h =
          let self : frame_row n ≡ n = row-frame n (row-bound t n inside) in
          let frame : frame_on t n (pending t below) ≡ coming_fields t r.second below
          = rw w.read (field_frame t n inside (pending t below) n self is_field) in
          let ahead : coming t r.first (n ∷ below) ≡ coming_fields t n below = ap (text_on (term_of t r.first)) frame ∙ sym text in
          rw w.same (turned-above t stack₀ depth (rw w.same at h) (rw self (earlier.0, (of_field (rw (self, is_field)), w.above))) (rw ahead w.part))

      -- it is a leaf
      module _ (k' : is_leaf_kind f.kind ≡ true) where
        leaf : Leaf t r.first first-inside (coming_fields t r.second below) f
        leaf = leaf_read t r.first first-inside (coming_fields t r.second below) (g ∙ found t r.first first-inside) k'

        leaf-text : coming_fields t n below ≡ leaf_bytes t.message.now f ++ coming_fields t r.second below
        leaf-text = text ∙ leaf.text

        pub leaf-fits : Inside t.message.now f × (end + length (leaf_bytes t.message.now f) ≤ length output)
        leaf-fits = (leaf.inside, put_fits output end _ (leaf_bytes t.message.now f) _ leaf-text w.room)

        pub next : {output' : List ℕ} {end' : ℕ} {r' : Row} → output' ≡ sets output end (leaf_bytes t.message.now f)
            → end' ≡ end + length (leaf_bytes t.message.now f)
            → r' ≡ row_in t.rows.now r.second → Fielding t stack₀ output₀ depth n₀ end₀ stack output' r.second r' end'
        next {output' = output'} o e read =
            let kept : length output' ≡ length output = rw o (length-sets output end (leaf_bytes t.message.now f)) in
            let put = part_put output end _ (leaf_bytes t.message.now f) _ leaf-text (o, e) in
            record {
              same = w.same;
              room = part_room output end _ put kept w.room;
              read = read ∙ found t r.second (omega (arith, earlier.1, inside));
              tuple = rw w.read (field_rest t n inside is_field);
              above = above_lower t r.second n below earlier.1 w.above;
              part = part_then output₀ end₀ text₀ w.part put;
            }

  -- no field is left
  module _ (k : r.kind ≡ field_kind → ⊥) where
    last : coming_fields t n below ≡ (code "}" ∷ []) ++ pending t below
    last = no_fields t n inside (code "}" ∷ pending t below) w.tuple (λ e. k (rw w.read e))

    pub close_fits : end + 1 ≤ length output
    close_fits = omega (arith, put_fits output end _ (code "}" ∷ []) _ last w.room)

    pub closed : {output' : List ℕ} {end' : ℕ} → output' ≡ set output end (code "}") → end' ≡ end + 1
        → Turned t output₀ end₀ text₀ stack output' None depth end'
    closed o e =
        let put = part_put output end _ (code "}" ∷ []) _ last (o, e) in
        rw w.same (turned-done t stack₀ depth (falling_below t n below w.above) (part_then output₀ end₀ text₀ w.part put))
