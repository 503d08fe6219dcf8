-- The byte at a place of a message, its class, and the range of the digits.
use Prim.Native.Nat.{ℕ, suc, ◌+◌, ◌-◌, ◌≤◌, ◌<◌}
use mathlib.Core.Path.{◌≡◌, refl, sym, subst}
use mathlib.Core.Bool.{Bool, true, false, ◌&&◌, cond}
use mathlib.Core.List.{List, [], ◌∷◌}
use native.Mathlib.Numerals.{add-one}
use native.Mathlib.Omega.{arith}
use lib.ListN.{length, drop, get_or}
use lib.Seq.{drop-cons}
use lib.Dec.{T, eqb, leb, leb→le}
use lib.Ieee.Fits.{and_l, and_r}
use borrow.Author.Tests.{eqb-true}
use Rattle.format.specs.Byte as B
use Rattle.format.specs.Byte.{Class, Entry, ◌is◌, specials, class_in, class_of, class_code, has_class}

pub byte_at : (message : List ℕ) (i : ℕ) → i < length message → drop i message ≡ get_or message i 0 ∷ drop (i + 1) message
byte_at message i h = rw (add-one, drop-cons message i 0)

-- one byte further from the start
pub next-count : (start i : ℕ) → start ≤ i → (i + 1) - start ≡ suc (i - start)
next-count start i h = omega arith

abbrev in_digits : ℕ → Bool
in_digits b = leb 48 b && leb b 57

-- whether an entry, if it is a digit's, lies in the digits' range, and whether each of a list does
abbrev entry_within : ℕ → Class → Bool
entry_within k c = cond (eqb (class_code c) (class_code B.digit)) (in_digits k) true

digits_within : List Entry → Bool
digits_within [] = true
digits_within ((k is c) ∷ es) = entry_within k c && digits_within es

within : (es : List Entry) (b : ℕ) → T (digits_within es) → eqb (class_code (class_in es b)) (class_code B.digit) ≡ true → T (in_digits b)
unfolding digits_within class_in
within [] b t d = absurd (subst T (sym d) tt)
within ((k is c) ∷ es) b t d = cases (eqb k b) refl (within es b (and_r (entry_within k c) (digits_within es) t))
  where
    cases : (q : Bool) → eqb k b ≡ q → (eqb (class_code (class_in es b)) (class_code B.digit) ≡ true → T (in_digits b)) → T (in_digits b)
    cases true e more = rw (← eqb-true k b e) (rw (rw (e, class_in) at d) at (and_l (entry_within k c) (digits_within es) t))
    cases false e more = more (rw (e, class_in) at d)

pub digit_range : (b : ℕ) → has_class B.digit b ≡ true → (48 ≤ b) × (b ≤ 57)
unfolding has_class class_of digits_within specials
digit_range b d =
    let t = within specials b tt d in
    (leb→le 48 b (and_l (leb 48 b) (leb b 57) t), leb→le b 57 (and_r (leb 48 b) (leb b 57) t))
