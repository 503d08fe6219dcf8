-- A turn of the frame at the top of the stack, by the kind of its row.
use Prim.Native.Nat.{ℕ, ◌+◌, ◌-◌, ◌≤◌, ◌<◌}
use Prim.Native.Char.{code}
use mathlib.Core.Path.{◌≡◌, refl, sym, ◌∙◌}
use mathlib.Core.List.{List, [], ◌∷◌, ◌++◌}
use native.Mathlib.Omega.{arith}
use lib.ListN.{length, get_or}
use lib.Dec.{T}
use lib.Seq.{sets}
use Rattle.std.specs.Prelude.{None}
use Rattle.format.specs.Text.{between}
use Rattle.format.specs.Rows.{Row, row_room, span_of, is_tuple_kind, cons_kind, field_kind, tag_kind}
use Rattle.table.specs.Words.{last_first, row_in}
use Rattle.table.proofs.Rows.{length-last_first}
use Rattle.text.specs.declared.rows.SoundRows.{SoundRows}
use Rattle.text.specs.Rows.{row_used}
use Rattle.text.specs.Walk.{frame_row, pending, coming_fields, Frame, of_cell, of_field, of_tag, Above, Falling}
use Rattle.text.proofs.Partly.{put_fits, part_put}
use Rattle.text.proofs.Frames.{top-first, above-inside, above-used, above-room, above_lower, falling_below, found}
use Rattle.text.proofs.Frames.{field_names, field_rest, field_frame, tag-inside, tag-frame}
use Rattle.text.proofs.Turned.{Turned, turned-done}

-- the frame on top of the stack, of so many, has its turn
pub record Turn (t : SoundRows) (stack output : List ℕ) (depth at : ℕ) : Type 0 where
  pub some : 0 < depth
  pub falling : Falling t (last_first stack depth)
  pub room : at + length (pending t (last_first stack depth)) ≤ length output

-- as it is required
pub turn_of : {t : SoundRows} {stack output : List ℕ} {depth at : ℕ} → record {
  some : 0 < depth;
  falling : Falling t (last_first stack depth);
  room : at + length (pending t (last_first stack depth)) ≤ length output;
} → Turn t stack output depth at
turn_of r = record { some = r.some; falling = r.falling; room = r.room }

module _ {t : SoundRows} {stack output : List ℕ} {depth at : ℕ} (w : Turn t stack output depth at) where
  abbrev top : ℕ
  top = depth - 1

  abbrev e : ℕ
  e = get_or stack top 0

  abbrev below : List ℕ
  below = last_first stack top

  -- the frames, with that on top apart
  pub stacked : last_first stack depth ≡ e ∷ below
  stacked = top-first stack depth w.some

  pub falls : Falling t (e ∷ below)
  falls = rw stacked at w.falling

  pub room-first : at + length (pending t (e ∷ below)) ≤ length output
  room-first = rw stacked at w.room

  pub top_in_bounds : t.used ≤ length stack → top < length stack
  top_in_bounds h = omega (arith, above-inside t (frame_row e) below falls.1, length-last_first stack top)

  abbrev text₀ : List ℕ
  text₀ = pending t (last_first stack depth)

  abbrev i : ℕ
  i = frame_row e

  inside : i < t.used
  inside = above-used t i below falls.1

  pub frame-room : i < row_room t.rows.now
  frame-room = above-room t i below falls.1

  -- its row has the words r
  module _ {r : Row} (read : r ≡ row_in t.rows.now (frame_row (get_or stack top 0))) where
    is : r ≡ row_used t i
    is = read ∙ found t i inside

    -- a tuple's: the fields after the one that is stored come next
    module _ (k : r.kind ≡ field_kind) where
      is_field : (row_used t i).kind ≡ field_kind
      is_field = rw is at k

      earlier : r.second < i
      earlier = rw is (field_names t i inside is_field).1

      pub fields_text : text₀ ≡ coming_fields t r.second below
      unfolding pending
      fields_text = rw (stacked, is) (field_frame t i inside (pending t below) e refl is_field)

      pub rest-tuple : T (is_tuple_kind (row_in t.rows.now r.second).kind)
      rest-tuple =
          let tuple : T (is_tuple_kind (row_used t r.second).kind) = rw is (field_rest t i inside is_field) in
          rw (found t r.second (omega (arith, earlier, inside))) tuple

      pub rest-above : Above t r.second below
      rest-above = above_lower t r.second i below earlier falls.1

      pub rest-room : at + length (coming_fields t r.second below) ≤ length output
      rest-room = rw fields_text at w.room

    -- a tag's: the tag comes next
    module _ (k : r.kind ≡ tag_kind) where
      is-tag : (row_used t i).kind ≡ tag_kind
      is-tag = rw is at k

      abbrev bytes : List ℕ
      bytes = between (code "`") (span_of t.message.now r.first r.second) []

      tag-text : text₀ ≡ bytes ++ pending t below
      unfolding pending
      tag-text = rw (stacked, is) (tag-frame t i inside (pending t below) e refl is-tag)

      pub tag_fits : (r.first + r.second ≤ length t.message.now) × (at + length bytes ≤ length output)
      tag_fits = (rw is (tag-inside t i inside is-tag), put_fits output at text₀ bytes _ tag-text w.room)

      pub tag-turned : {output' : List ℕ} {at' : ℕ} → output' ≡ sets output at bytes → at' ≡ at + length bytes
          → Turned t output at text₀ stack output' None top at'
      tag-turned o a = turned-done t stack top (falling_below t i below falls.1) (part_put output at text₀ bytes _ tag-text (o, a))

    -- a list cell's
    pub cell : r.kind ≡ cons_kind → ((row_in t.rows.now i).kind ≡ cons_kind) × ((row_in t.rows.now i).first ≡ r.first)
    cell k = rw (sym read) (k, refl)

    -- there is no other
    pub no_other : (r.kind ≡ field_kind → ⊥) → (r.kind ≡ cons_kind → ⊥) → (r.kind ≡ tag_kind → ⊥) → ⊥
    no_other f c g = by falls.0
      where
        by : Frame t e → ⊥
        by (of_cell q) = c (rw is q)
        by (of_field q) = f (rw is q)
        by (of_tag q) = g (rw is q)
