-- Rows judged one after the other: each by its own words, then by the kind of its rest.
use Prim.Native.Nat.{ℕ, ◌+◌, ◌≤◌, ◌<◌}
use mathlib.Core.Path.{◌≡◌, refl, ap, sym, subst, ◌∙◌}
use mathlib.Core.Bool.{Bool, true, false, ◌&&◌}
use mathlib.Core.List.{List, [], ◌∷◌, ◌++◌}
use native.Mathlib.Numerals.{add-one}
use native.Mathlib.Omega.{arith}
use lib.ListN.{length, get_or, take, drop, drop_of_length-le}
use lib.Seq.{take-suc, drop-cons, get_or-take, length-take-le}
use lib.Dec.{T}
use Rattle.format.specs.Rows.{Row, row, cons_kind, field_kind, row_at, rows_of, row_room}
use Rattle.format.specs.Sound.{sound_row, sound_rest, sound_after, sound_rows}
use Rattle.format.proofs.TableRows.{length-rows, cons-earlier, field_earlier, rest-kind}
use Rattle.table.specs.Words.{row_in}
use Rattle.table.proofs.Rows.{row_of}

module _ (message words : List ℕ) (used : ℕ) where
  abbrev rows : List Row
  rows = rows_of used words

  -- whether the rows from i on are sound, after those before
  abbrev pub from : ℕ → Bool
  from i = sound_after message (take i rows) (drop i rows)

  pub begins : from 0 ≡ sound_rows message rows
  unfolding sound_rows
  begins = refl

  pub ends : (i : ℕ) → used ≤ i → from i ≡ true
  unfolding sound_after
  ends i h = rw (drop_of_length-le rows {i = i} (rw length-rows h))

  module _ (fits : used ≤ row_room words) (i : ℕ) (h : i < used) (r : Row) (own : r ≡ row_in words i) where
    among : i < length rows
    among = rw length-rows h

    here : get_or rows i (row 0 0 0 0) ≡ r
    unfolding row_at
    here = sym (own ∙ row_of words used i fits h)

    -- it comes after i rows, and before those from i + 1 on
    pub rows-from : drop i rows ≡ r ∷ drop (i + 1) rows
    rows-from = rw (drop-cons rows i (row 0 0 0 0) among, add-one, here)

    pub rows_before : take (i + 1) rows ≡ take i rows ++ (r ∷ [])
    rows_before = rw (add-one, take-suc rows i (row 0 0 0 0) among, here)

    pub count-before : length (take i rows) ≡ i
    count-before = length-take-le i rows (omega (arith, among))

    row-at : from i ≡ (sound_row message i r && sound_rest r.kind (row_at (take i rows) r.second).kind && from (i + 1))
    unfolding sound_after
    row-at = rw (rows-from, rows_before, count-before)

    pub row_fails : sound_row message i r ≡ false → from i ≡ false
    row_fails e = rw (row-at, e)

    module _ (sound : sound_row message i r ≡ true) where
      -- a rest is a row before, and so has room
      pub cons-room : r.kind ≡ cons_kind → r.second < row_room words
      cons-room k = omega (arith, (cons-earlier message i r (subst T (sym sound) tt) k).1)

      pub field_room : r.kind ≡ field_kind → r.second < row_room words
      field_room k = omega (arith, (field_earlier message i r (subst T (sym sound) tt) k).1)

      -- a rest is the same among the rows before as in the table
      pub rest-same : sound_rest r.kind (row_at (take i rows) r.second).kind ≡ sound_rest r.kind (row_in words r.second).kind
      unfolding row_at
      rest-same =
          let e : r.second < i → row_at (take i rows) r.second ≡ row_in words r.second =
          λ l. get_or-take i rows r.second (row 0 0 0 0) l ∙ sym (row_of words used r.second fits (omega arith))
          in
          rest-kind message i r (subst T (sym sound) tt) _ _ (λ l. ap (λ (y : Row). y.kind) (e l))

      rest_at : from i ≡ (sound_rest r.kind (row_in words r.second).kind && from (i + 1))
      rest_at = row-at ∙ rw (sound, rest-same)

      pub rest_fails : sound_rest r.kind (row_in words r.second).kind ≡ false → from i ≡ false
      rest_fails e = rw (rest_at, e)

      pub passes : sound_rest r.kind (row_in words r.second).kind ≡ true → from i ≡ from (i + 1)
      passes e = rw (rest_at, e)
