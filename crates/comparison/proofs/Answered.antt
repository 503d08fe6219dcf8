-- What `compare` has to answer, refusal by refusal.
use Prim.Native.Nat.{ℕ, ◌+◌, ◌≤◌, ◌<◌}
use mathlib.Core.Path.{◌≡◌}
use mathlib.Core.Bool.{Bool, true, false}
use mathlib.Core.List.{List}
use lib.Dec.{ltb}
use lib.ListN.{length}
use borrow.Author.Tests.{lt-ltb, le-ltb}
use Rattle.format.specs.Bound.{message_bound}
use Rattle.format.specs.Sound.{sound_table}
use Rattle.format.specs.Answer as A
use Rattle.format.specs.Answer.{over_bound, zeroed, compare_answer}
use Rattle.comparison.specs.Answers.{compared_as}
use Rattle.comparison.specs.Classes.{side, term_in, same_term}
use Rattle.std.specs.Prelude.{Result, Ok, Err}
use Rattle.format.specs.declared.refusal.Refusal.{Refusal}
use Rattle.format.specs.declared.refusal.Refusal.TheVariants.{OverBound, ShortTable, Unsound}

module _ (message_a words_a : List ℕ) (used_a root_a : ℕ) (message_b words_b : List ℕ) (used_b root_b : ℕ) (scratch : List ℕ) where
  abbrev answer : A.Compared
  answer = compare_answer message_a words_a used_a root_a message_b words_b used_b root_b scratch

  pub over_first : message_bound < length message_a → compared_as (Err OverBound) scratch ≡ answer
  unfolding compared_as compare_answer over_bound
  over_first h = rw (lt-ltb message_bound (length message_a) h)

  module _ (in_a : length message_a ≤ message_bound) where
    short_a : ltb message_bound (length message_a) ≡ false
    short_a = le-ltb message_bound (length message_a) in_a

    pub over-second : message_bound < length message_b → compared_as (Err OverBound) scratch ≡ answer
    unfolding compared_as compare_answer over_bound
    over-second h = rw (short_a, lt-ltb message_bound (length message_b) h)

    module _ (in_b : length message_b ≤ message_bound) where
      short_b : ltb message_bound (length message_b) ≡ false
      short_b = le-ltb message_bound (length message_b) in_b

      pub short-scratch : length scratch < used_a + used_b → compared_as (Err ShortTable) scratch ≡ answer
      unfolding compared_as compare_answer over_bound
      short-scratch h = rw (short_a, short_b, lt-ltb (length scratch) (used_a + used_b) h)

      module _ (room : used_a + used_b ≤ length scratch) where
        fits : ltb (length scratch) (used_a + used_b) ≡ false
        fits = le-ltb (length scratch) (used_a + used_b) room

        pub unsound-first : sound_table message_a words_a used_a root_a ≡ false → compared_as (Err Unsound) (zeroed scratch) ≡ answer
        unfolding compared_as compare_answer over_bound
        unsound-first e = rw (short_a, short_b, fits, e)

        module _ (sound_a : sound_table message_a words_a used_a root_a ≡ true) where
          pub unsound-second : sound_table message_b words_b used_b root_b ≡ false → compared_as (Err Unsound) (zeroed scratch) ≡ answer
          unfolding compared_as compare_answer over_bound
          unsound-second e = rw (short_a, short_b, fits, sound_a, e)

          -- both tables are sound
          module _ (sound_b : sound_table message_b words_b used_b root_b ≡ true) where
            pub compared : (same : Bool) → same ≡ same_term (term_in (side message_a words_a used_a) root_a) (term_in (side message_b words_b used_b) root_b)
                → compared_as (Ok same) (zeroed scratch) ≡ answer
            unfolding compared_as compare_answer over_bound same_term
            compared same e = rw (short_a, short_b, fits, sound_a, sound_b, e)

  -- the scratch cleared at the end, whatever it holds by then
  pub cleared : (c : Result Bool Refusal) (after end : List ℕ) → length after ≡ length scratch → end ≡ zeroed after → compared_as c (zeroed scratch) ≡ answer → compared_as c end ≡ answer
  unfolding zeroed
  cleared c after end k e q = rw (e, k) q
