-- The class of a row: the first row with the same term.
use Prim.Native.Nat.{ℕ, zero, suc, ◌≤◌, ◌<◌}
use mathlib.Core.Path.{◌≡◌, refl, ap, sym, ◌∙◌}
use mathlib.Core.Bool.{Bool, true, false, ◌&&◌, and-false}
use mathlib.Core.List.{[], ◌∷◌, ◌++◌}
use native.Mathlib.Omega.{arith}
use lib.Dec.{eqb, ltb, leb}
use lib.ListN.{length, get_or, length-append, get_or-append}
use lib.Seq.{get_or_at}
use borrow.Author.Tests.{eqb-true, eq-eqb, ltb-true, ltb-false, leb-true, leb-false}
use Rattle.format.specs.Term.{Term}
use Rattle.format.specs.Text.{plain}
use Rattle.comparison.specs.Classes.{same_term, first_below, row_class, class_list}
use Rattle.comparison.proofs.Firsts.{First, found, first_of}
use Rattle.comparison.proofs.SameTerms.{agree, texts_of, same_of}

module _ (term : ℕ → Term) where
  -- a row with the same text has the same rows before it
  moved : (k m n : ℕ) → plain (term m) ≡ plain (term n) → same_term (term k) (term m) ≡ same_term (term k) (term n)
  unfolding same_term
  moved k m n e = rw e

  -- the class of row n is m
  class_is : (n m : ℕ) → m ≤ n → plain (term m) ≡ plain (term n) → ((k : ℕ) → k < m → same_term (term k) (term n) ≡ false) → row_class term n ≡ m
  unfolding row_class
  class_is n m h e none = found (λ k. same_term (term k) (term n)) n m h none (λ l. same_of (term m) (term n) e)

  -- what is known of it
  record Class (n : ℕ) : Type 0 where
    bound : row_class term n ≤ n
    text : plain (term (row_class term n)) ≡ plain (term n)
    none : (k : ℕ) → k < row_class term n → same_term (term k) (term n) ≡ false

  class_of : (n : ℕ) → Class n
  unfolding row_class
  class_of n = record { bound = r.bound; text = text (ltb (row_class term n) n) refl; none = r.none }
    where
      r : First (λ k. same_term (term k) (term n)) n
      r = first_of (λ k. same_term (term k) (term n)) n

      text : (b : Bool) → ltb (row_class term n) n ≡ b → plain (term (row_class term n)) ≡ plain (term n)
      text true e = texts_of (term (row_class term n)) (term n) (r.passes (ltb-true (row_class term n) n e))
      text false e = let last : row_class term n ≡ n = omega (arith, r.bound, ltb-false (row_class term n) n e) in ap (λ (m : ℕ). plain (term m)) last

  -- the later of two rows with the same text has the class of the earlier one
  later : (p q : ℕ) → p ≤ q → plain (term p) ≡ plain (term q) → row_class term q ≡ row_class term p
  later p q h e =
      let c = class_of p in
      class_is q (row_class term p) (omega (arith, c.bound)) (c.text ∙ e) (λ k l. sym (moved k p q e) ∙ c.none k l)

  equal-classes : (p q : ℕ) → plain (term p) ≡ plain (term q) → row_class term p ≡ row_class term q
  equal-classes p q e = by (leb p q) refl
    where
      by : (b : Bool) → leb p q ≡ b → row_class term p ≡ row_class term q
      by true h = sym (later p q (leb-true p q h) e)
      by false h = later q p (omega (arith, leb-false p q h)) (sym e)

  -- two rows have the same class exactly where their terms are the same
  pub same_class_lem : (p q : ℕ) → eqb (row_class term p) (row_class term q) ≡ same_term (term p) (term q)
  same_class_lem p q =
      agree _ _
      (λ e. same_of (term p) (term q) (sym (class_of p).text ∙ ap (λ (m : ℕ). plain (term m)) (eqb-true _ _ e) ∙ (class_of q).text))
      (λ e. eq-eqb _ _ (equal-classes p q (texts_of (term p) (term q) e)))

  -- to find the first row with some term, it is enough to look at rows that are the first of their class
  pub leader : (t : Term) (n : ℕ) → first_below (λ m. eqb (row_class term m) m && same_term (term m) t) n ≡ first_below (λ m. same_term (term m) t) n
  unfolding same_term
  leader t n = found _ n m r.bound (λ k l. rw (r.none k l, and-false)) (λ l. both l)
    where
      r : First (λ k. same_term (term k) t) n
      r = first_of (λ k. same_term (term k) t) n

      m : ℕ
      m = first_below (λ k. same_term (term k) t) n

      -- a row before it with its term would have been found
      before : m < n → (k : ℕ) → k < m → same_term (term k) (term m) ≡ false
      before l k h = rw (texts_of (term m) t (r.passes l)) (r.none k h)

      both : m < n → (eqb (row_class term m) m && same_term (term m) t) ≡ true
      both l = rw (eq-eqb _ _ (class_is m m (omega arith) refl (before l)), r.passes l)

  length-classes : (n : ℕ) → length (class_list term n) ≡ n
  unfolding class_list
  length-classes zero = refl
  length-classes (suc n) = omega (arith, length-append (class_list term n) (row_class term n ∷ []), length-classes n)

  -- the list holds the class of each row
  pub class_listed : (n m : ℕ) → m < n → get_or (class_list term n) m 0 ≡ row_class term m
  unfolding class_list
  class_listed zero m h = absurd (omega arith)
  class_listed (suc n) m h = by (ltb m n) refl (λ l. class_listed n m l)
    where
      by : (b : Bool) → ltb m n ≡ b → (m < n → get_or (class_list term n) m 0 ≡ row_class term m) → get_or (class_list term n ++ (row_class term n ∷ [])) m 0 ≡ row_class term m
      by true e listed =
          let l = ltb-true m n e in
          let inside : m < length (class_list term n) = omega (arith, length-classes n) in
          get_or-append (class_list term n) (row_class term n ∷ []) 0 m inside ∙ listed l
      by false e listed = let last : m ≡ n = omega (arith, ltb-false m n e) in rw last (get_or_at (class_list term n) (row_class term n) [] 0 n (length-classes n))
