-- The walk over the rows, which stores a plain text from leaf to leaf. A frame is a row of which something is still to come. The frames lie on a stack, their
-- rows falling towards its top, so that a word for each row used is room enough.
use Rattle.std.specs.Prelude.{ℕ, ◌+◌, ◌≤◌, ◌<◌, ◌%◌, ◌≡◌, cond, List, [], ◌∷◌, length, eqb, ltb, Option, Some, None}
use Prim.Native.Char.{code}
use Rattle.std.proofs.lemmas.List.Edits.{sets}
use Rattle.format.specs.Bound.{row_bound}
use Rattle.format.specs.Text.{between, text_on, fields_on}
use Rattle.format.specs.Rows.{Row, span_of, fields_of, cons_kind, field_kind, tag_kind}
use Rattle.format.specs.declared.Row as D
use Rattle.text.specs.Rows.{row_used, term_of}
use Rattle.text.specs.declared.rows.SoundRows.{SoundRows}

-- a frame is a row's number, to which the bound is added where the row is a list cell whose item is begun
unfoldable pub frame_row : ℕ → ℕ
frame_row e = e % row_bound

-- what stands before the first of the rows that a row names: `{` where that is a tuple's field
unfoldable pub open_bytes : Row → List ℕ
open_bytes r = cond (eqb r.kind field_kind) (code "{" ∷ []) []

-- the row whose text comes first: a tuple's field, a list cell's rest, a tag's inner row
unfoldable pub first_named : Row → ℕ
first_named r = cond (eqb r.kind field_kind) r.first (cond (eqb r.kind cons_kind) r.second r.third)

-- the rows of a sound table
module _ (t : SoundRows) where
  -- what is still to come of a frame, in front of what comes after it. Of a list cell, whose rest is stored: its item, unless that is begun, and `&`; of a
  -- tuple's field, which is stored: the fields after it and `}`; of a tag, whose inner text is stored: the tag
  unfoldable pub frame_on : ℕ → List ℕ → List ℕ
  frame_on e more =
      let r = row_used t (frame_row e) in
      cond (eqb r.kind cons_kind) (cond (ltb e row_bound) (text_on (term_of t r.first) (code "&" ∷ more)) (code "&" ∷ more))
      (cond (eqb r.kind field_kind) (fields_on (fields_of (term_of t r.second)) (code "}" ∷ more))
      (between (code "`") (span_of t.message.now r.first r.second) more))

  -- what is still to come of the frames, the top first; `$` comes after the whole
  unfoldable pub pending : List ℕ → List ℕ
  pending [] = code "$" ∷ []
  pending (e ∷ frames) = frame_on e (pending frames)

  -- what is still to come where row i comes first
  abbrev pub coming : ℕ → List ℕ → List ℕ
  coming i frames = text_on (term_of t i) (pending frames)

  -- where a tuple's fields come first, those from row i on
  abbrev pub coming_fields : ℕ → List ℕ → List ℕ
  coming_fields i frames = fields_on (fields_of (term_of t i)) (code "}" ∷ pending frames)

  -- the row of a frame names others
  pub data Frame (e : ℕ) : Type 0 where
    of_cell : (row_used t (frame_row e)).kind ≡ cons_kind → Frame e
    of_field : (row_used t (frame_row e)).kind ≡ field_kind → Frame e
    of_tag : (row_used t (frame_row e)).kind ≡ tag_kind → Frame e

  -- row i lies above these frames, whose rows fall towards it
  abbrev pub Above : ℕ → List ℕ → Type 0
  Above i [] = i < t.used
  Above i (e ∷ frames) = (i < frame_row e) × (Frame e × Above (frame_row e) frames)

  abbrev pub Falling : List ℕ → Type 0
  Falling [] = Unit {0}
  Falling (e ∷ frames) = Frame e × Above (frame_row e) frames

  -- what is still to come above these frames: a row, if one comes next, and the frames
  unfoldable pub coming_next : Option D.Row → List ℕ → List ℕ
  coming_next (Some row) frames = coming row.0 frames
  coming_next None frames = pending frames

  unfoldable pub ReadyNext : Option D.Row → List ℕ → Type 0
  ReadyNext (Some row) frames = Above row.0 frames
  ReadyNext None frames = Falling frames

-- part of a text was stored from `at` on: what is left of it, stored where that part ends, makes the same bytes
pub record Partly (output : List ℕ) (at : ℕ) (text : List ℕ) (output' : List ℕ) (at' : ℕ) (text' : List ℕ) : Type 0 where
  pub onward : at ≤ at'
  pub count : at' + length text' ≡ at + length text
  pub bytes : sets output' at' text' ≡ sets output at text
