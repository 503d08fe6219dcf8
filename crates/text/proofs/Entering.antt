-- The way from a row down to its first leaf.
use Prim.Native.Nat.{ℕ, ◌+◌, ◌≤◌, ◌<◌}
use mathlib.Core.Path.{◌≡◌, ◌∙◌}
use mathlib.Core.Bool.{true, false}
use mathlib.Core.List.{List, ◌∷◌, ◌++◌}
use native.Mathlib.Numerals.{add-one}
use native.Mathlib.Omega.{arith}
use lib.ListN.{length, set}
use lib.Seq.{sets, length-sets}
use Rattle.format.specs.Rows.{Row, row_room}
use Rattle.table.specs.Words.{last_first, row_in}
use Rattle.table.proofs.Rows.{pushed, length-last_first}
use Rattle.leaves.specs.Leaves.{is_leaf_kind, leaf_bytes, Inside}
use Rattle.text.specs.declared.rows.SoundRows.{SoundRows}
use Rattle.text.specs.Rows.{row_used}
use Rattle.text.specs.Walk.{open_bytes, first_named, pending, coming, Above, Falling, Partly}
use Rattle.text.proofs.Partly.{part_none, part_then, part_room, put_fits, part_put}
use Rattle.text.proofs.Frames.{Leaf, Inner, above-inside, above-used, above-room, falling_below, row-bound, row-frame, found, leaf_read, inner_read}

-- the stack, the output, the row and where the text goes on, at first
module _ (t : SoundRows) (stack₀ output₀ : List ℕ) (n₀ frames₀ end₀ : ℕ) where
  abbrev text₀ : List ℕ
  text₀ = coming t n₀ (last_first stack₀ frames₀)

  -- row n, with the words r, comes next, above so many frames
  pub record Entering (stack output : List ℕ) (n : ℕ) (r : Row) (frames end : ℕ) : Type 0 where
    pub room : end + length (coming t n (last_first stack frames)) ≤ length output
    pub read : r ≡ row_used t n
    pub above : Above t n (last_first stack frames)
    pub part : Partly output₀ end₀ text₀ output end (coming t n (last_first stack frames))

  pub starts : {r : Row} → Above t n₀ (last_first stack₀ frames₀) → end₀ + length text₀ ≤ length output₀ → r ≡ row_in t.rows.now n₀
      → Entering stack₀ output₀ n₀ r frames₀ end₀
  starts above room read = record {
    room = room;
    read = read ∙ found t n₀ (above-used t n₀ (last_first stack₀ frames₀) above);
    above = above;
    part = part_none output₀ end₀ text₀;
  }

module _ {t : SoundRows} {stack₀ output₀ : List ℕ} {n₀ frames₀ end₀ : ℕ} {stack output : List ℕ} {n : ℕ} {r : Row} {frames end : ℕ}
    (w : Entering t stack₀ output₀ n₀ frames₀ end₀ stack output n r frames end) where
  abbrev below : List ℕ
  below = last_first stack frames

  inside : n < t.used
  inside = above-used t n below w.above

  -- the stack has room for the frame
  pub frame-fits : t.used ≤ length stack → frames < length stack
  frame-fits h = omega (arith, above-inside t n below w.above, length-last_first stack frames)

  -- a row that names others becomes a frame, and the first of them comes next
  module _ (k : is_leaf_kind r.kind ≡ false) where
    inner : Inner t n inside (pending t below) r
    inner = inner_read t n inside (pending t below) w.read k

    text : coming t n below ≡ open_bytes r ++ coming t (first_named r) (n ∷ below)
    unfolding pending
    text = inner.text

    pub begin_fits : end + length (open_bytes r) ≤ length output
    begin_fits = put_fits output end (coming t n below) (open_bytes r) _ text w.room

    pub first-earlier : first_named r < n
    first-earlier = inner.earlier

    pub first-room : first_named r < row_room t.rows.now
    first-room = omega (arith, first-earlier, above-room t n below w.above)

    pub entered : {output' : List ℕ} {n' end' : ℕ} {r' : Row} → t.used ≤ length stack → output' ≡ sets output end (open_bytes r)
        → (end' ≡ end + length (open_bytes r)) × (n' ≡ first_named r)
        → r' ≡ row_in t.rows.now n' → Entering t stack₀ output₀ n₀ frames₀ end₀ (set stack frames n) output' n' r' (frames + 1) end'
    entered {output' = output'} {n' = n'} {end' = end'} h o s read =
        let kept : length output' ≡ length output = rw o (length-sets output end (open_bytes r)) in
        let frames' : last_first (set stack frames n) (frames + 1) ≡ n ∷ below = rw add-one (pushed stack frames n (frame-fits h)) in
        let put : Partly output end (coming t n below) output' end' (coming t n' (n ∷ below))
        = rw s.1 (part_put output end _ (open_bytes r) _ text (o, s.0)) in
        record {
          room = rw frames' (part_room output end _ put kept w.room);
          read = read ∙ found t n' (omega (arith, s.1, first-earlier, inside));
          above = rw frames' (rw (row-frame n (row-bound t n inside), s.1) (first-earlier, (inner.frame, w.above)));
          part = rw frames' (part_then output₀ end₀ _ w.part put);
        }

  -- a leaf's text comes next
  module _ (k : is_leaf_kind r.kind ≡ true) where
    leaf : Leaf t n inside (pending t below) r
    leaf = leaf_read t n inside (pending t below) w.read k

    pub leaf-fits : Inside t.message.now r × (end + length (leaf_bytes t.message.now r) ≤ length output)
    leaf-fits = (leaf.inside, put_fits output end (coming t n below) (leaf_bytes t.message.now r) _ leaf.text w.room)

    pub leaf-stored : {output' : List ℕ} {at : ℕ} → output' ≡ sets output end (leaf_bytes t.message.now r) → at ≡ end + length (leaf_bytes t.message.now r)
        → Falling t below × (Partly output₀ end₀ (coming t n₀ (last_first stack₀ frames₀)) output' at (pending t below) × (end₀ < at))
    leaf-stored o a =
        let put = part_put output end _ (leaf_bytes t.message.now r) _ leaf.text (o, a) in
        (falling_below t n below w.above, (part_then output₀ end₀ _ w.part put, omega (arith, a, leaf.some, w.part.onward)))
