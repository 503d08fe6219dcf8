-- Word k of a block: where there is none, and where its bytes lie.
use Prim.Native.Nat.{ℕ, ◌+◌, ◌*◌, ◌-◌, ◌^◌, ◌/◌, ◌%◌, ◌≤◌, ◌<◌}
use mathlib.Core.Path.{◌≡◌, refl}
use mathlib.Core.Bool.{cond}
use mathlib.Core.List.{List}
use native.Mathlib.Nat.{div-mul-le_self, mul-le-mul_right, suc-mul}
use native.Mathlib.Omega.{arith}
use lib.ListN.{length, get_or, drop}
use lib.Seq.{get_or-take, get_or-drop}
use lib.IntN.{ℤ, pos}
use borrow.Author.Tests.{eq-eqb, ne_eqb, le-leb, lt-leb}
use Rattle.format.specs.Bits.{from_bits}
use Rattle.format.specs.Rows.{span_of}
use Rattle.format.specs.Word as F
use Rattle.format.specs.Word.{joined, no_word, word_of, word_in}
use Rattle.format.proofs.Lists.{length-span}
use Rattle.words.specs.declared.layout.Layout.{Layout}
use Rattle.words.specs.Known.{order_of, format_of}
use Rattle.words.proofs.Joins.{bytes_of, joined-below}

-- word k ends inside the block
pub word-inside : (n w k : ℕ) → k < n / w → k * w + w ≤ n
word-inside n w k h = omega (arith, suc-mul k w, mul-le-mul_right w h, div-mul-le_self n w)

-- its bytes, as the code takes them
pub word-long : (k w : ℕ) → k * w + w - k * w ≡ w
word-long k w = omega arith

module _ (block : List ℕ) (layout : Layout) (k : ℕ) where
  abbrev w : ℕ
  w = layout.width

  abbrev answer : F.Word
  answer = word_in (format_of layout) block k

  pub uneven : (length block % w ≡ 0 → ⊥) → no_word 19 ≡ answer
  unfolding word_in format_of
  uneven h = rw (ne_eqb (length block % w) 0 h) refl

  module _ (even : length block % w ≡ 0) where
    pub past_end : length block / w ≤ k → no_word 20 ≡ answer
    unfolding word_in format_of
    past_end h = rw (eq-eqb (length block % w) 0 even, le-leb (length block / w) k h) refl

    module _ (h : k < length block / w) (bits : ℕ) (b : bits ≡ joined (order_of layout.order) (span_of block (k * w) w)) where
      -- no more bits than the width has
      pub bits_below : ((i : ℕ) → get_or block i 0 < 256) → bits < 2 ^ (8 * w)
      bits_below known =
          let word = span_of block (k * w) w in
          let long : length word ≡ w = length-span block (k * w) w (word-inside (length block) w k h) in
          let here : (i : ℕ) → i < length word → get_or word i 0 < 256
          = λ i u. rw (get_or-take w (drop (k * w) block) i 0 (rw long at u), get_or-drop (k * w) block i 0) (known (k * w + i)) in
          let below = joined-below (order_of layout.order) word (bytes_of word here) in
          rw b (rw long at below)

      pub one_word : (z : ℤ) → z ≡ cond layout.signed (from_bits (8 * w) bits) (pos bits) → record { number = 0; value = z } ≡ answer
      unfolding word_in word_of format_of
      one_word z v = rw (eq-eqb (length block % w) 0 even, lt-leb (length block / w) k h, ← b, ← v) refl
