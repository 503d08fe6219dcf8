-- The numbers that bound the work, met to the byte: refusal 1 comes with the first byte over the bound, before every other refusal,
-- and touches nothing; a table longer than its bound has room for the bound.
use Prim.Native.Nat.{ℕ, ◌≤◌, ◌<◌}
use mathlib.Core.Path.{◌≡◌}
use mathlib.Core.Bool.{true, false, or-true}
use mathlib.Core.List.{List}
use lib.ListN.{length}
use borrow.Author.Tests.{lt-ltb, le-ltb}
use Rattle.format.specs.Bound.{message_bound}
use Rattle.format.specs.Rows.{row_room}
use Rattle.format.specs.Word.{no_word}
use Rattle.format.specs.Answer.{Tables, over_bound, limits_of, decode_refusal, decode_answer, write_refusal, write_answer, compare_refusal, compare_answer, word_answer}

pub within : (message : List ℕ) → length message ≤ 1048576 → over_bound message ≡ false
unfolding over_bound
within message h = le-ltb message_bound (length message) h

module _ (message : List ℕ) (long : 1048576 < length message) where
  over : over_bound message ≡ true
  unfolding over_bound
  over = lt-ltb message_bound (length message) long

  pub decode_over : (t : Tables) → decode_answer message t ≡ decode_refusal 1 0 t
  unfolding decode_answer
  decode_over t = rw over

  pub write_over : (words : List ℕ) (used root : ℕ) (scratch output : List ℕ) → write_answer message words used root scratch output ≡ write_refusal 1 scratch output
  unfolding write_answer
  write_over words used root scratch output = rw over

  -- either side
  pub compare_over_a : (words : List ℕ) (used root : ℕ) (other words' : List ℕ) (used' root' : ℕ) (scratch : List ℕ)
      → compare_answer message words used root other words' used' root' scratch ≡ compare_refusal 1 scratch
  unfolding compare_answer
  compare_over_a words used root other words' used' root' scratch = rw over

  pub compare_over_b : (words : List ℕ) (used root : ℕ) (other words' : List ℕ) (used' root' : ℕ) (scratch : List ℕ)
      → compare_answer other words' used' root' message words used root scratch ≡ compare_refusal 1 scratch
  unfolding compare_answer
  compare_over_b words used root other words' used' root' scratch = rw (over, or-true)

  pub word_over : (words : List ℕ) (used root k : ℕ) → word_answer message words used root k ≡ no_word 1
  unfolding word_answer
  word_over words used root k = rw over

-- words divided by four, rounded down
pub room-below : (t : Tables) → length t.rows ≡ 262143 → length t.stack ≡ 4095 → length t.marks ≡ 255 → limits_of t ≡ record { rows = 65535; stack = 4095; marks = 255 }
unfolding limits_of row_room
room-below t r s m = rw (r, s, m)

pub room-above : (t : Tables) → length t.rows ≡ 262148 → length t.stack ≡ 4097 → length t.marks ≡ 257 → limits_of t ≡ record { rows = 65536; stack = 4096; marks = 256 }
unfolding limits_of row_room
room-above t r s m = rw (r, s, m)
