-- The text of each kind of leaf: how it is stored part by part, and how many bytes it has.
use Prim.Native.Nat.{ℕ, ◌+◌, ◌*◌, ◌-◌, ◌^◌, ◌≤◌, ◌<◌}
use Prim.Native.Char.{code}
use mathlib.Core.Path.{◌≡◌, ap, ◌∙◌}
use mathlib.Core.Bool.{Bool, true, false}
use mathlib.Core.List.{List, [], ◌∷◌, ◌++◌}
use native.Mathlib.Omega.{arith}
use lib.ListN.{length, length-append}
use lib.Seq.{sets}
use borrow.Author.Tests.{lt-ltb, le-ltb}
use Rattle.format.specs.Bits.{from_bits}
use Rattle.format.specs.Term as T
use Rattle.format.specs.Text.{natural_on, decimal_on, between, text_on}
use Rattle.format.specs.Rows.{span_of}
use Rattle.format.proofs.Lists.{length-span}
use Rattle.format.proofs.Sizes.{natural_onto}
use Rattle.leaves.specs.Leaves.{bytes_of, integer_bytes, quote_of, count_bytes, span_bytes}
use Rattle.leaves.proofs.Stores.{Stored, stored-both}

-- a count in front of a rest, and bytes between two quotes
pub length-after : (n : ℕ) (rest : List ℕ) → length (natural_on n rest) ≡ length (natural_on n []) + length rest
length-after n rest = ap length (natural_onto n [] rest) ∙ length-append (natural_on n []) rest

pub length-between : (quote : ℕ) (bytes : List ℕ) → length (between quote bytes []) ≡ length bytes + 2
length-between quote bytes = omega (arith, length-append bytes (quote ∷ []))

-- an integer by the halves of its two's complement
module _ (high low : ℕ) where
  pub positive : high < 2147483648 → low < 2 ^ 32
      → integer_bytes false (high * 4294967296 + low) ≡ text_on (T.int (from_bits 64 (high * 2 ^ 32 + low))) []
  unfolding from_bits integer_bytes text_on decimal_on
  positive h l = rw (lt-ltb (high * 2 ^ 32 + low) (2 ^ 63) (omega arith))

  pub negative : 2147483648 ≤ high → high * 4294967296 + low < 2 ^ 64
      → integer_bytes true (18446744073709551615 - (high * 4294967296 + low) + 1) ≡ text_on (T.int (from_bits 64 (high * 2 ^ 32 + low))) []
  unfolding from_bits integer_bytes text_on decimal_on
  negative h b = rw (le-ltb (high * 2 ^ 32 + low) (2 ^ 63) (omega arith)) (ap (λ (n : ℕ). code "-" ∷ natural_on n (code " " ∷ [])) (omega arith))

-- how many bytes an integer has
pub length_magnitude : (n : ℕ) → length (integer_bytes false n) ≡ length (natural_on n []) + 1
unfolding integer_bytes
length_magnitude n = length-after n (code " " ∷ [])

pub length-negative : {negative : Bool} (n : ℕ) → negative ≡ true → length (integer_bytes negative n) ≡ length (integer_bytes false n) + 1
unfolding integer_bytes
length-negative n e = rw e (omega arith)

-- the same, from the count of its digits
module _ {negative : Bool} (n : ℕ) {digits : ℕ} (d : digits ≡ length (natural_on n [])) where
  pub size-negative : negative ≡ true → digits + 2 ≡ length (integer_bytes negative n)
  size-negative h = omega (arith, d, length-negative n h, length_magnitude n)

  pub size-positive : negative ≡ false → digits + 1 ≡ length (integer_bytes negative n)
  size-positive h = rw h (omega (arith, d, length_magnitude n))

-- an integer stored: a minus where it is negative, and the magnitude with its blank
module _ (out : List ℕ) (at n : ℕ) {left : List ℕ} {next : ℕ} where
  pub stored_magnitude : {first : List ℕ} {end : ℕ} → Stored out at (natural_on n []) first end
      → Stored first end (code " " ∷ []) left next → Stored out at (integer_bytes false n) left next
  unfolding integer_bytes
  stored_magnitude a b = rw (natural_onto n [] (code " " ∷ [])) (stored-both out at (natural_on n []) (code " " ∷ []) a b)

  pub stored-negative : {negative : Bool} → negative ≡ true → {first : List ℕ} {digits : ℕ} → Stored out at (code "-" ∷ []) first digits
      → Stored first digits (integer_bytes false n) left next → Stored out at (integer_bytes negative n) left next
  unfolding integer_bytes
  stored-negative e a b = rw e (stored-both out at (code "-" ∷ []) (natural_on n (code " " ∷ [])) a b)

-- a span between two quotes
module _ (message : List ℕ) (start n : ℕ) where
  abbrev span : List ℕ
  span = span_of message start n

  pub length-quoted : (quote : ℕ) → start + n ≤ length message → length (between quote span []) ≡ n + 2
  length-quoted quote h = omega (arith, length-between quote span, length-span message start n h)

-- bytes stored between two quotes
pub stored-quoted : (bytes out : List ℕ) (at quote : ℕ) {left : List ℕ} {next : ℕ} {first second : List ℕ} {inner end : ℕ}
    → Stored out at (quote ∷ []) first inner → (second ≡ sets first inner bytes) × (end ≡ inner + length bytes) → Stored second end (quote ∷ []) left next
    → Stored out at (between quote bytes []) left next
stored-quoted bytes out at quote {first = first} {inner = inner} a b c =
    stored-both out at (quote ∷ []) (bytes ++ (quote ∷ [])) a (stored-both first inner bytes (quote ∷ []) b c)

-- an atom, a string or a binary: the count where it is a binary, and the bytes between its quotes
module _ (k : ℕ) (bytes : List ℕ) {quote : ℕ} (e : quote ≡ quote_of k) where
  abbrev quoted : List ℕ
  quoted = between quote bytes []

  pub length-bytes : length (bytes_of k bytes) ≡ length (count_bytes k (length bytes)) + length quoted
  unfolding bytes_of
  length-bytes = rw e (length-append (count_bytes k (length bytes)) (between (quote_of k) bytes []))

  pub stored_bytes : (out : List ℕ) (at : ℕ) {left : List ℕ} {next : ℕ} {first : List ℕ} {inner : ℕ} → Stored out at (count_bytes k (length bytes)) first inner
      → Stored first inner quoted left next → Stored out at (bytes_of k bytes) left next
  unfolding bytes_of
  stored_bytes out at a b = stored-both out at (count_bytes k (length bytes)) (between (quote_of k) bytes []) a (rw e at b)

-- by a span of the message
pub as_bytes : (message : List ℕ) (k start n : ℕ) → start + n ≤ length message → span_bytes message k start n ≡ bytes_of k (span_of message start n)
unfolding span_bytes bytes_of
as_bytes message k start n h = rw (length-span message start n h)
