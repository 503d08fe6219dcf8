-- The rows of a tuple stored one by one: its end, then its fields from the last to the first.
use Prim.Native.Nat.{ℕ, zero, suc, ◌+◌, ◌*◌, ◌-◌, ◌≤◌, ◌<◌}
use mathlib.Core.Path.{◌≡◌, sym, ◌∙◌}
use mathlib.Core.List.{List, [], ◌∷◌, reverse}
use native.Mathlib.Numerals.{add-one, sub-one}
use native.Mathlib.Omega.{arith}
use lib.ListN.{length, get_or, take, drop, length-take, length-drop, length-reverse}
use lib.Seq.{sets, length-take-le, get_or-take, get_or-drop}
use Rattle.std.proofs.lemmas.List.{get_or-reverse}
use Rattle.std.proofs.lemmas.Grind.{get_or_default_zero}
use Rattle.std.proofs.Common.{Option, Some, None, Iter, Bor}
use Rattle.std.specs.declared.iter.Rev.{Rev}
use Rattle.std.specs.Iterator.{Yields}
use Rattle.std.specs.Iterator.Adapters.{rev_source, rev_steps}
use Rattle.std.specs.Slice.Iter.{iter_rest, iter_steps_back}
use Rattle.std.proofs.lemmas.Iterator.{YieldsList}
use Rattle.std.proofs.lemmas.Iterator.Consumers.{YieldsList-turn, YieldsList-end}
use Rattle.std.proofs.lemmas.Iterator.Adapters.{YieldsList-from_rev_slice}
use Rattle.format.specs.Rows.{Row, row, row_words, words_of, end_kind, field_kind, end_row, field_row}
use Rattle.table.specs.Words.{last_first, between, field_rows, tuple_rows, stored_rows}
use Rattle.table.proofs.Rows.{length-last_first, length_fields}

-- a row more in front
more_rows : (words : List ℕ) (n : ℕ) (r : Row) (rows : List Row)
    → sets words (n * row_words) (words_of (r ∷ rows)) ≡ sets (sets words (n * row_words) (words_of (r ∷ []))) ((n + 1) * row_words) (words_of rows)
unfolding words_of
more_rows words n r rows =
    let e : (n + 1) * row_words ≡ suc (suc (suc (suc (n * row_words)))) = omega arith in
    rw e

-- the top value, where there is one above the base
next-top : (stack : List ℕ) (base depth : ℕ) → base < depth → between stack base depth ≡ get_or stack (depth - 1) 0 ∷ between stack base (depth - 1)
unfolding between last_first
next-top stack base zero h = absurd (omega arith)
next-top stack base (suc n) h = let e : suc n - base ≡ suc (n - base) = omega arith in rw (sub-one, e)

none_above : (stack : List ℕ) (base depth : ℕ) → depth ≤ base → between stack base depth ≡ []
unfolding between
none_above stack base depth h = let e : depth - base ≡ 0 = omega arith in rw e

-- the table once the fields above `low` and up to `high` are stored after the row `rest`
abbrev pub with_fields : List ℕ → List ℕ → ℕ → ℕ → ℕ → List ℕ
with_fields words stack low high rest = sets words ((rest + 1) * row_words) (words_of (field_rows rest (between stack low high)))

pub field_more : (words stack : List ℕ) (low high rest : ℕ) → low < high
    → with_fields words stack low high rest
    ≡ with_fields (sets words ((rest + 1) * row_words) (words_of (row field_kind (get_or stack (high - 1) 0) rest 0 ∷ [])))
    stack low (high - 1) (rest + 1)
unfolding field_rows field_row
field_more words stack low high rest h = rw (next-top stack low high h, ← add-one rest) (more_rows words (rest + 1) _ _)

pub field_none : (words stack : List ℕ) (low high rest : ℕ) → high ≤ low → with_fields words stack low high rest ≡ words
unfolding field_rows words_of
field_none words stack low high rest h = rw (none_above stack low high h)

-- the stack's values above `low` and up to `high`, taken from the last to the first
module _ (stack : List ℕ) (low high : ℕ) where
  abbrev pub part : List ℕ
  part = take (high - low) (drop low stack)

  module _ (inside : high ≤ length stack) where
    length-part : length part ≡ high - low
    length-part = length-take-le (high - low) (drop low stack) (simp length-drop (omega arith))

    pub length-taken : length (reverse part) ≡ high - low
    length-taken = length-reverse part ∙ length-part

    pub taken : (k d : ℕ) → k < high - low → get_or (reverse part) k d ≡ get_or stack (high - k - 1) 0
    taken k d h =
        let i : ℕ = high - low - 1 - k in
        let place : low + i ≡ high - k - 1 = omega arith in
        get_or-reverse part k d (omega (arith, length-part))
        ∙ rw (length-part, get_or-take (high - low) (drop low stack) i d (omega arith), get_or-drop, place)
        (get_or_default_zero stack (high - k - 1) d (omega arith))

    -- a turn of the loop that takes them, and its end
    module _ (s t u : Rev (Iter ℕ)) (xs : List (Bor ℕ)) (begun : iter_rest (rev_source s) ≡ part)
        (before : Yields (rev_steps iter_steps_back) s xs t) (r : Option (Bor ℕ)) (step : rev_steps iter_steps_back t r u) where
      yields : YieldsList (rev_steps iter_steps_back) (λ y. y.now) s (reverse part)
      yields = YieldsList-from_rev_slice part begun

      pub turn : (x : Bor ℕ) → r ≡ Some x → (length xs < high - low) × (x.now ≡ get_or stack (high - length xs - 1) 0)
      turn x e =
          let now = YieldsList-turn yields xs t before r u x e step in
          let left : length xs < high - low = omega (arith, length-taken, now.0) in
          (left, now.1 ∙ taken (length xs) x.now left)

      pub done : r ≡ None → length xs ≡ high - low
      done e = (YieldsList-end yields xs t before r u e step).1 ∙ length-taken

length-between : (stack : List ℕ) (base depth : ℕ) → length (between stack base depth) ≡ depth - base
unfolding between
length-between stack base depth = simp (length-take, length-last_first) (omega arith)

module _ (words stack : List ℕ) (base depth n : ℕ) where
  pub length-tuple : length (tuple_rows n (between stack base depth)) ≡ suc (depth - base)
  unfolding tuple_rows
  length-tuple = simp (length_fields, length-between)

  -- the table with the end stored, and then with the fields stored after it
  pub tuple-stored : {ended filled : List ℕ} → ended ≡ sets words (n * row_words) (words_of (row end_kind 0 0 0 ∷ []))
      → filled ≡ with_fields ended stack base depth n → filled ≡ stored_rows words n (tuple_rows n (between stack base depth))
  unfolding stored_rows tuple_rows end_row
  tuple-stored e f = f ∙ rw e (sym (more_rows words n _ _))
