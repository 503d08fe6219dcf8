-- What holds of a word of every width: the number that its bits are, and the range that it lies in. Below, the ends of the range of each width of 01.
use Prim.Native.Nat.{ℕ, zero, suc, ◌+◌, ◌*◌, ◌-◌, ◌/◌, ◌^◌, ◌≤◌, ◌<◌}
use mathlib.Core.Path.{◌≡◌, refl, ap, sym, ◌∙◌}
use mathlib.Core.Bool.{Bool, true, false, cond}
use mathlib.Core.List.{List, []}
use native.Mathlib.Nat.{mul-div_cancel}
use native.Mathlib.Omega.{arith}
use lib.ListN.{length}
use lib.Dec.{T, ltb, le→leb}
use lib.IntN.{ℤ, pos, negsuc, ◌-ℤ◌}
use lib.Pow.{are_bytes, pow-add}
use lib.Signed.{mag, ◌≤ℤ◌, le_z_yes}
use borrow.Author.Tests.{lt-ltb, le-ltb, ltb-true, ltb-false}
use Rattle.format.specs.Bits.{from_bits}
use Rattle.format.specs.Word.{Order, joined, word_of}
use Rattle.words.proofs.Joins.{joined-below}

-- a number less a larger one
less : (a b : ℕ) → a < b → pos a -ℤ pos b ≡ negsuc (b - suc a)
less a zero h = absurd (omega arith)
less a (suc b) h = rw (lt-ltb a (suc b) h) refl

-- a width that is not 0
module _ (w : ℕ) (wide : 0 < w) where
  abbrev half : ℕ
  half = 2 ^ (8 * w - 1)

  -- half of the values are below zero
  pub two-halves : 2 ^ (8 * w) ≡ half * 2
  two-halves = let e : 8 * w ≡ (8 * w - 1) + 1 = omega arith in ap (λ (n : ℕ). 2 ^ n) e ∙ pow-add 2 (8 * w - 1) 1

  pub half_of : 2 ^ (8 * w) / 2 ≡ half
  half_of = ap (λ (n : ℕ). n / 2) two-halves ∙ mul-div_cancel half (omega arith)

  module _ (bits : ℕ) (below : bits < 2 ^ (8 * w)) where
    -- two's complement: the lower half of the values as they are, the upper half less all of them
    pub lower : bits < half → from_bits (8 * w) bits ≡ pos bits
    unfolding from_bits
    lower h = rw (lt-ltb bits half h) refl

    pub upper : half ≤ bits → from_bits (8 * w) bits ≡ pos bits -ℤ pos (2 ^ (8 * w))
    unfolding from_bits
    upper h = rw (le-ltb bits half h) (sym (less bits (2 ^ (8 * w)) below))

    -- a signed word lies from -2 ^ (8 w - 1) up to 2 ^ (8 w - 1) - 1
    pub signed_range : mag (from_bits (8 * w) bits) < half
    unfolding from_bits
    signed_range = by (ltb bits half) refl
      where
        by : (q : Bool) → ltb bits half ≡ q → mag (cond (ltb bits half) (pos bits) (negsuc (2 ^ (8 * w) - suc bits))) < half
        by true e = rw e (ltb-true bits half e)
        by false e = rw e (omega (arith, two-halves, ltb-false bits half e))

-- the least and the greatest number of a width
unfoldable pub least : ℕ → Bool → ℤ
least w signed = cond signed (negsuc (2 ^ (8 * w - 1) - 1)) (pos 0)

unfoldable pub greatest : ℕ → Bool → ℤ
greatest w signed = pos (cond signed (2 ^ (8 * w - 1)) (2 ^ (8 * w)) - 1)

abbrev pub Within : ℕ → Bool → ℤ → Type 0
Within w signed z = (least w signed ≤ℤ z) × (z ≤ℤ greatest w signed)

signed-within : (w : ℕ) (z : ℤ) → mag z < 2 ^ (8 * w - 1) → Within w true z
unfolding least greatest
signed-within w (pos n) h = (le_z_yes tt, le_z_yes (le→leb n (2 ^ (8 * w - 1) - 1) (omega arith)))
signed-within w (negsuc n) h = (le_z_yes (le→leb n (2 ^ (8 * w - 1) - 1) (omega arith)), le_z_yes tt)

unsigned_within : (w n : ℕ) → n < 2 ^ (8 * w) → Within w false (pos n)
unfolding least greatest
unsigned_within w n h = (le_z_yes (le→leb 0 n (omega arith)), le_z_yes (le→leb n (2 ^ (8 * w) - 1) (omega arith)))

-- the word that so many bytes are
abbrev pub word : ℕ → Bool → Order → List ℕ → ℤ
word w signed o bytes = word_of (record { name = []; width = w; signed = signed; order = o }) bytes

abbrev pub Bytes : ℕ → List ℕ → Type 0
Bytes w bytes = (length bytes ≡ w) × T (are_bytes bytes)

-- every width, both signs, either order: it lies between the ends
pub word-within : (w : ℕ) → 0 < w → (signed : Bool) (o : Order) (bytes : List ℕ) → Bytes w bytes → Within w signed (word w signed o bytes)
unfolding word_of
word-within w wide true o bytes p = signed-within w _ (signed_range w wide (joined o bytes) (rw p.0 at (joined-below o bytes p.1)))
word-within w wide false o bytes p = unsigned_within w (joined o bytes) (rw p.0 at (joined-below o bytes p.1))

-- one byte, two, four
module _ (o : Order) (bytes : List ℕ) where
  pub u8_within : Bytes 1 bytes → (pos 0 ≤ℤ word 1 false o bytes) × (word 1 false o bytes ≤ℤ pos 255)
  unfolding least greatest
  u8_within = word-within 1 (omega arith) false o bytes

  pub i8_within : Bytes 1 bytes → (negsuc 127 ≤ℤ word 1 true o bytes) × (word 1 true o bytes ≤ℤ pos 127)
  unfolding least greatest
  i8_within = word-within 1 (omega arith) true o bytes

  pub u16_within : Bytes 2 bytes → (pos 0 ≤ℤ word 2 false o bytes) × (word 2 false o bytes ≤ℤ pos 65535)
  unfolding least greatest
  u16_within = word-within 2 (omega arith) false o bytes

  pub i16_within : Bytes 2 bytes → (negsuc 32767 ≤ℤ word 2 true o bytes) × (word 2 true o bytes ≤ℤ pos 32767)
  unfolding least greatest
  i16_within = word-within 2 (omega arith) true o bytes

  pub u32_within : Bytes 4 bytes → (pos 0 ≤ℤ word 4 false o bytes) × (word 4 false o bytes ≤ℤ pos 4294967295)
  unfolding least greatest
  u32_within = word-within 4 (omega arith) false o bytes

  pub i32_within : Bytes 4 bytes → (negsuc 2147483647 ≤ℤ word 4 true o bytes) × (word 4 true o bytes ≤ℤ pos 2147483647)
  unfolding least greatest
  i32_within = word-within 4 (omega arith) true o bytes
