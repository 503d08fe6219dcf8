-- What a writing leaves: a refusal changes no output byte; otherwise the text of a sound table's root lies at the head of the output.
use Prim.Native.Nat.{ℕ, ◌≤◌}
use mathlib.Core.List.{List, ◌++◌}
use native.Mathlib.Omega.{arith}
use lib.ListN.{length, drop}
use lib.Dec.{T}
use borrow.Author.Tests.{ltb-false}
use Rattle.format.specs.Bound.{message_bound}
use Rattle.format.specs.Rows.{rows_of, term_at}
use Rattle.format.specs.Sound.{sound_table}
use Rattle.format.specs.Text.{plain}
use Rattle.format.specs.Answer.{Written, over_bound, zeroed, write_refusal, write_text, write_answer}

module _ (message words : List ℕ) (used root : ℕ) (scratch output : List ℕ) where
  -- the plain text of the root
  abbrev pub text : List ℕ
  text = plain (term_at message (rows_of used words) root)

  -- the three kinds of answers
  pub data Writes : Written → Type 0 where
    -- 1 and 2 touch nothing
    early : (number : ℕ) → 1 ≤ number → number ≤ 2 → Writes (write_refusal number scratch output)
    -- 16 and 15 clear the scratch
    late : (number : ℕ) → 3 ≤ number → Writes (write_refusal number (zeroed scratch) output)
    -- the text of a sound table, at the head of the output
    whole : T (sound_table message words used root) → length message ≤ message_bound → length text ≤ length output
        → Writes (record { number = 0; bytes = length text; scratch = zeroed scratch; output = text ++ drop (length text) output })

  pub writes : Writes (write_answer message words used root scratch output)
  unfolding write_answer write_text over_bound
  writes = grind (arith, early 1, early 2, late 16, late 15, whole, ltb-false message_bound (length message), ltb-false (length output) (length text))
