-- What `write` has to answer, refusal by refusal.
use Prim.Native.Nat.{ℕ, ◌≤◌, ◌<◌}
use mathlib.Core.Path.{◌≡◌, refl, ◌∙◌}
use mathlib.Core.Bool.{Bool, true, false, ◌&&◌, not, cond}
use mathlib.Core.List.{List, ◌++◌}
use lib.Dec.{T, leb, leb→le, ltb→lt}
use lib.ListN.{length, take, drop}
use lib.Seq.{length-take-le}
use lib.Ieee.Fits.{and_l, and_r}
use borrow.Author.Tests.{lt-ltb, le-ltb, leb-true, leb-false}
use Rattle.std.specs.Prelude.{Result, Ok, Err}
use Rattle.format.specs.Bound.{message_bound}
use Rattle.format.specs.Rows.{Row, rows_of, row_room, term_at}
use Rattle.format.specs.Sound.{count_fits, root_among, sound_rows, sound_table}
use Rattle.format.specs.Text.{plain}
use Rattle.format.specs.Answer as A
use Rattle.format.specs.Answer.{over_bound, zeroed, write_text, write_answer}
use Rattle.format.specs.declared.refusal.Refusal.{Refusal}
use Rattle.format.specs.declared.refusal.Refusal.TheVariants.{OverBound, ShortTable, TooLong, Unsound}
use Rattle.text.specs.Answers.{written_as, write_rows}

-- the claims of a table: its count and its root
module _ (words : List ℕ) (used root : ℕ) (claims : T (count_fits words used && root_among used root)) where
  pub count_room : used ≤ row_room words
  unfolding count_fits
  count_room = leb→le used (row_room words) (and_l (count_fits words used) (root_among used root) claims)

  pub root_inside : root < used
  unfolding root_among
  root_inside = ltb→lt root used (and_r (count_fits words used) (root_among used root) claims)

either_way : (b : Bool) (x y : A.Written) → cond b x y ≡ cond (not b) y x
either_way true x y = refl
either_way false x y = refl

-- rows that are not sound
pub rows_fail : (message : List ℕ) (rows : List Row) (root : ℕ) (scratch output : List ℕ) → sound_rows message rows ≡ false
    → written_as (Err Unsound) (zeroed scratch) output ≡ write_rows message rows root scratch output
unfolding written_as write_rows
rows_fail message rows root scratch output e = rw e

-- rows that are sound: 15, or the text
module _ (message : List ℕ) (rows : List Row) (root : ℕ) (sound : sound_rows message rows ≡ true) (scratch output : List ℕ) where
  abbrev text : List ℕ
  text = plain (term_at message rows root)

  pub too_long : leb (length text) (length output) ≡ false → written_as (Err TooLong) (zeroed scratch) output ≡ write_rows message rows root scratch output
  unfolding written_as write_text write_rows
  too_long e = rw (sound, lt-ltb (length output) (length text) (leb-false _ _ e))

  pub has_room : leb (length text) (length output) ≡ true → {left : List ℕ} {n : ℕ} → (left ≡ text ++ drop n output) × (n ≡ length text)
      → written_as (Ok n) (zeroed scratch) left ≡ write_rows message rows root scratch output
  unfolding written_as write_text write_rows
  has_room e h = rw (sound, le-ltb (length output) (length text) (leb-true _ _ e), h.0, h.1)

module _ (message words : List ℕ) (used root : ℕ) (scratch output : List ℕ) where
  pub over-bound : message_bound < length message → written_as (Err OverBound) scratch output ≡ write_answer message words used root scratch output
  unfolding written_as write_answer over_bound
  over-bound h = rw (lt-ltb message_bound (length message) h)

  module _ (h : length message ≤ message_bound) where
    pub short-scratch : length scratch < used → written_as (Err ShortTable) scratch output ≡ write_answer message words used root scratch output
    unfolding written_as write_answer over_bound
    short-scratch l = rw (le-ltb message_bound (length message) h, lt-ltb (length scratch) used l)

    module _ (u : used ≤ length scratch) where
      unsound : sound_table message words used root ≡ false
          → written_as (Err Unsound) (zeroed scratch) output ≡ write_answer message words used root scratch output
      unfolding written_as write_answer over_bound
      unsound e = rw (le-ltb message_bound (length message) h, le-ltb (length scratch) used u, e)

      -- the count or the root is wrong
      pub count_fails : count_fits words used ≡ false → written_as (Err Unsound) (zeroed scratch) output ≡ write_answer message words used root scratch output
      unfolding sound_table
      count_fails e = unsound (rw e)

      module _ (count : count_fits words used ≡ true) where
        pub root_fails : root_among used root ≡ false → written_as (Err Unsound) (zeroed scratch) output ≡ write_answer message words used root scratch output
        unfolding sound_table
        root_fails e = unsound (rw (count, e))

        -- the rows decide, with the first words of the scratch as the stack
        pub by_rows : root_among used root ≡ true → (a : Result ℕ Refusal) (left : List ℕ)
            → written_as a (zeroed scratch) left ≡ write_rows message (rows_of (length (take used scratch)) words) root scratch output
            → written_as a (zeroed scratch) left ≡ write_answer message words used root scratch output
        unfolding write_answer over_bound sound_table write_rows
        by_rows e a left q =
            let taken = rw (length-take-le used scratch u) at q in
            rw (le-ltb message_bound (length message) h, le-ltb (length scratch) used u, count, e)
            (taken ∙ either_way (sound_rows message (rows_of used words)) _ _)

  -- the scratch cleared at the end, whatever it holds by then
  pub cleared : (a : Result ℕ Refusal) (after left end : List ℕ) → length after ≡ length scratch → end ≡ zeroed after
      → written_as a (zeroed scratch) left ≡ write_answer message words used root scratch output
      → written_as a end left ≡ write_answer message words used root scratch output
  unfolding zeroed
  cleared a after left end k e q = rw (e, k) q
