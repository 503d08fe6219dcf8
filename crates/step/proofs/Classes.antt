-- The item that a byte of a class begins.
use Prim.Native.Nat.{ℕ, ◌≤◌, ◌<◌}
use mathlib.Core.Path.{◌≡◌, refl, ap, sym, ◌∙◌}
use mathlib.Core.Bool.{true}
use mathlib.Core.List.{List}
use mathlib.Core.Logic.{◌⊎◌, inl, inr}
use native.Mathlib.Omega.{arith}
use borrow.Author.Tests.{eq-eqb, eqb-true, ne_eqb}
use Rattle.format.specs.Byte.{class_of, class_code, has_class}
use Rattle.format.specs.Classes.{class_as}
use Rattle.format.specs.Lex.{lex, item_of}
use Rattle.format.specs.declared.class.Class.{Class}
use Rattle.format.specs.declared.class.Class.TheVariants.{Digit, Minus}
use Rattle.format.proofs.Classes.{minus_bytes}
use Rattle.lexer.specs.Integer.{with_sign}
use Rattle.lexer.proofs.Bytes.{digit_range}
use Rattle.literals.specs.Readers.{begun_item, begun_by}

module _ (b : ℕ) {x : Class} (known : class_as x ≡ class_of b) where
  -- a byte whose class in the table is k begins an item of that class
  pub lex_of : (k : Class) (r : List ℕ) → x ≡ k → lex b r ≡ item_of (class_as k) b r
  unfolding lex
  lex_of k r e = ap (λ c. item_of c b r) (sym known ∙ ap class_as e)

  has : (k : Class) → x ≡ k → has_class (class_as k) b ≡ true
  unfolding has_class
  has k e = eq-eqb _ _ (ap class_code (sym known ∙ ap class_as e))

  digit : x ≡ Digit → (48 ≤ b) × (b ≤ 57)
  digit e = digit_range b (has Digit e)

  minus : b < 256 → x ≡ Minus → b ≡ 45
  minus h e = eqb-true b 45 (sym (minus_bytes b h) ∙ has Minus e)

  -- a digit or a minus begins an integer
  module _ (h : b < 256) (either : (x ≡ Digit) ⊎ (x ≡ Minus)) where
    pub integer-lex : (r : List ℕ) → lex b r ≡ begun_item (begun_by b) r
    unfolding begun_item begun_by item_of with_sign
    integer-lex r = elim either [
      | inl d ↦ rw (lex_of Digit r d, ne_eqb b 45 (λ z. omega (arith, z, digit d))) refl
      | inr m ↦ rw (lex_of Minus r m, minus h m) refl
    ]

    pub integer-first : (b ≡ 45 → ⊥) → 48 ≤ b
    integer-first not = elim either [ inl d ↦ (digit d).0 | inr m ↦ absurd (not (minus h m)) ]
