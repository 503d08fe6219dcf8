-- A turn of the frame of a list cell: its item and `&`.
use Prim.Native.Nat.{ℕ, ◌+◌, ◌≤◌, ◌<◌}
use Prim.Native.Char.{code}
use mathlib.Core.Path.{◌≡◌, refl, ap, sym, ◌∙◌}
use mathlib.Core.Bool.{true}
use mathlib.Core.List.{List, [], ◌∷◌, ◌++◌}
use native.Mathlib.Omega.{arith}
use lib.ListN.{length, set}
use lib.Seq.{sets, length-sets}
use Rattle.std.specs.Prelude.{Some, None}
use Rattle.format.specs.Bound.{row_bound}
use Rattle.format.specs.Text.{text_on}
use Rattle.format.specs.Rows.{Row, row_room, cons_kind}
use Rattle.table.specs.Words.{last_first, row_in}
use Rattle.table.proofs.Rows.{length-last_first}
use Rattle.leaves.specs.Leaves.{is_leaf_kind, leaf_bytes, Inside}
use Rattle.text.specs.declared.rows.SoundRows.{SoundRows}
use Rattle.text.specs.Rows.{row_used, term_of}
use Rattle.text.specs.Walk.{frame_row, frame_on, pending, coming, of_cell, Falling, Partly}
use Rattle.text.proofs.Partly.{part_none, part_then, part_room, put_fits, part_put}
use Rattle.text.proofs.Frames.{Leaf, above-inside, above-used, above-room, falling_below, row-frame, begun-frame, found, leaf_read}
use Rattle.text.proofs.Frames.{cell-names, item-frame, begun-item_frame}
use Rattle.text.proofs.Turned.{Turned, turned-done, turned-above}

-- the frame e, which was on top of these frames, is that of a list cell with this item
pub record Cell (t : SoundRows) (e : ℕ) (stack : List ℕ) (depth : ℕ) (output : List ℕ) (at item : ℕ) : Type 0 where
  pub falling : Falling t (e ∷ last_first stack depth)
  pub room : at + length (pending t (e ∷ last_first stack depth)) ≤ length output
  pub cell : ((row_in t.rows.now (frame_row e)).kind ≡ cons_kind) × ((row_in t.rows.now (frame_row e)).first ≡ item)

-- as it is required
pub cell_of : {t : SoundRows} {e : ℕ} {stack : List ℕ} {depth : ℕ} {output : List ℕ} {at item : ℕ} → record {
  falling : Falling t (e ∷ last_first stack depth);
  room : at + length (pending t (e ∷ last_first stack depth)) ≤ length output;
  cell : ((row_in t.rows.now (frame_row e)).kind ≡ cons_kind) × ((row_in t.rows.now (frame_row e)).first ≡ item);
} → Cell t e stack depth output at item
cell_of r = record { falling = r.falling; room = r.room; cell = r.cell }

module _ {t : SoundRows} {e : ℕ} {stack : List ℕ} {depth : ℕ} {output : List ℕ} {at item : ℕ} (w : Cell t e stack depth output at item) where
  abbrev below : List ℕ
  below = last_first stack depth

  abbrev more : List ℕ
  more = pending t below

  abbrev text₀ : List ℕ
  text₀ = pending t (e ∷ below)

  abbrev i : ℕ
  i = frame_row e

  inside : i < t.used
  inside = above-used t i below w.falling.1

  is-cell : (row_used t i).kind ≡ cons_kind
  is-cell = rw (found t i inside) at w.cell.0

  is-item : (row_used t i).first ≡ item
  is-item = rw (found t i inside) at w.cell.1

  earlier : item < i
  earlier = rw is-item at (cell-names t i inside is-cell).0

  item-inside : item < t.used
  item-inside = omega (arith, earlier, inside)

  -- the stack has room for the frame again
  pub frame-fits : t.used ≤ length stack → depth < length stack
  frame-fits h = omega (arith, above-inside t i below w.falling.1, length-last_first stack depth)

  pub item_room : item < row_room t.rows.now
  item_room = omega (arith, earlier, above-room t i below w.falling.1)

  -- its item is begun, and now done
  module _ (h : row_bound ≤ e) where
    last : text₀ ≡ (code "&" ∷ []) ++ more
    unfolding pending
    last = begun-item_frame t i inside more e refl is-cell h

    pub begun-fits : at + 1 ≤ length output
    begun-fits = omega (arith, put_fits output at text₀ (code "&" ∷ []) _ last w.room)

    pub begun-done : {output' : List ℕ} {at' : ℕ} → output' ≡ set output at (code "&") → at' ≡ at + 1
        → Turned t output at text₀ stack output' None depth at'
    begun-done o a = turned-done t stack depth (falling_below t i below w.falling.1) (part_put output at text₀ (code "&" ∷ []) _ last (o, a))

  -- its item is still to come, and has the words f
  module _ (h : e < row_bound) {f : Row} (g : f ≡ row_in t.rows.now item) where
    text : text₀ ≡ text_on (term_of t item) (code "&" ∷ more)
    unfolding pending
    text = rw is-item at (item-frame t i inside more e refl is-cell h)

    -- a leaf is stored, and `&`
    module _ (k : is_leaf_kind f.kind ≡ true) where
      leaf : Leaf t item item-inside (code "&" ∷ more) f
      leaf = leaf_read t item item-inside (code "&" ∷ more) (g ∙ found t item item-inside) k

      pub leaf-fits : Inside t.message.now f × (at + length (leaf_bytes t.message.now f) ≤ length output)
      leaf-fits = (leaf.inside, put_fits output at text₀ (leaf_bytes t.message.now f) _ (text ∙ leaf.text) w.room)

      module _ {output' : List ℕ} {at' : ℕ} (o : output' ≡ sets output at (leaf_bytes t.message.now f))
          (a : at' ≡ at + length (leaf_bytes t.message.now f)) where
        put : Partly output at text₀ output' at' (code "&" ∷ more)
        put = part_put output at text₀ (leaf_bytes t.message.now f) _ (text ∙ leaf.text) (o, a)

        pub and-fits : at' + 1 ≤ length output'
        and-fits = omega (arith, part_room output at text₀ put (rw o (length-sets output at (leaf_bytes t.message.now f))) w.room)

        pub item-done : {output'' : List ℕ} {at'' : ℕ} → output'' ≡ set output' at' (code "&") → at'' ≡ at' + 1
            → Turned t output at text₀ stack output'' None depth at''
        item-done o' a' =
            let and = part_put output' at' (code "&" ∷ more) (code "&" ∷ []) more refl (o', a') in
            turned-done t stack depth (falling_below t i below w.falling.1) (part_then output at text₀ put and)

    -- another row comes next, and the item is begun
    pub into : t.used ≤ length stack → Turned t output at text₀ (set stack depth (e + row_bound)) output (Some (record { 0 = item })) (depth + 1) at
    unfolding pending
    into words =
        let begun : frame_row (e + row_bound) ≡ i = begun-frame e h ∙ sym (row-frame e h) in
        let frame : frame_on t (e + row_bound) more ≡ code "&" ∷ more = begun-item_frame t i inside more (e + row_bound) begun is-cell (omega arith) in
        let ahead : coming t item ((e + row_bound) ∷ below) ≡ text₀ = ap (text_on (term_of t item)) frame ∙ sym text in
        turned-above t stack depth (frame-fits words) (rw begun (earlier, (of_cell (rw (begun, is-cell)), w.falling.1))) (rw ahead (part_none output at text₀))
