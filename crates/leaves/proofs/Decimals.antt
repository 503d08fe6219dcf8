-- Digits one by one: a number below ten is one digit, any other is the digits of its tenth and one more.
use Prim.Native.Nat.{ℕ, zero, suc, ◌+◌, ◌/◌, ◌%◌, ◌≤◌, ◌<◌}
use Prim.Native.Char.{code}
use mathlib.Core.Path.{◌≡◌, refl, sym, ◌∙◌}
use mathlib.Core.Bool.{Bool, true, false}
use mathlib.Core.List.{List, [], ◌∷◌, ◌++◌}
use native.Mathlib.Nat.{div-div-eq-div-mul}
use native.Mathlib.Omega.{arith}
use lib.ListN.{length, length-append}
use lib.Dec.{ltb}
use borrow.Author.Tests.{lt-ltb, le-ltb, ltb-false}
use Rattle.format.specs.Text.{digits_on, natural_on}
use Rattle.format.proofs.Sizes.{natural_onto}
use Rattle.leaves.proofs.Stores.{Stored, stored-both}

digits_one : (f n : ℕ) (rest : List ℕ) → n < 10 → digits_on f n rest ≡ (code "0" + n) ∷ rest
unfolding digits_on
digits_one zero n rest h = refl
digits_one (suc f) n rest h = rw (lt-ltb n 10 h, digits_on)

-- any bound on the divisions that is enough gives the same digits
enough : (f g n : ℕ) (rest : List ℕ) → n ≤ f → n ≤ g → digits_on f n rest ≡ digits_on g n rest
unfolding digits_on
enough zero g n rest h k = sym (digits_one g n rest (omega arith))
enough (suc f) zero n rest h k = digits_one (suc f) n rest (omega arith)
enough (suc f) (suc g) n rest h k = cases (ltb n 10) refl (enough f g (n / 10) ((code "0" + n % 10) ∷ rest))
  where
    cases : (b : Bool) → ltb n 10 ≡ b
        → (n / 10 ≤ f → n / 10 ≤ g → digits_on f (n / 10) ((code "0" + n % 10) ∷ rest) ≡ digits_on g (n / 10) ((code "0" + n % 10) ∷ rest))
        → digits_on (suc f) n rest ≡ digits_on (suc g) n rest
    cases true e next = rw (e, digits_on)
    cases false e next = rw (e, digits_on) (next (omega (arith, ltb-false n 10 e)) (omega (arith, ltb-false n 10 e)))

natural_one : (n : ℕ) → n < 10 → natural_on n [] ≡ (code "0" + n) ∷ []
unfolding natural_on
natural_one n h = digits_one n n [] h

natural-more : (n : ℕ) → 10 ≤ n → natural_on n [] ≡ natural_on (n / 10) [] ++ ((code "0" + n % 10) ∷ [])
unfolding natural_on digits_on
natural-more zero h = absurd (omega arith)
natural-more (suc f) h =
    let m = suc f / 10 in
    let last : List ℕ = (code "0" + suc f % 10) ∷ [] in
    rw (le-ltb (suc f) 10 h, digits_on) (enough f m m last (omega arith) (omega arith) ∙ natural_onto m [] last)

pub length_one : (n : ℕ) → n < 10 → length (natural_on n []) ≡ 1
length_one n h = rw (natural_one n h)

-- one digit more
pub length_more : (n : ℕ) → 10 ≤ n → length (natural_on n []) ≡ length (natural_on (n / 10) []) + 1
length_more n h = rw (natural-more n h) (length-append (natural_on (n / 10) []) ((code "0" + n % 10) ∷ []))

pub length_two : (n : ℕ) → 10 ≤ n → n < 100 → length (natural_on n []) ≡ 2
length_two n h k = omega (arith, length_more n h, length_one (n / 10) (omega arith))

-- two digits more
pub length-more_two : (n : ℕ) → 100 ≤ n → length (natural_on n []) ≡ length (natural_on (n / 100) []) + 2
length-more_two n h =
    let hundredth : n / 10 / 10 ≡ n / 100 = div-div-eq-div-mul n 10 10 in
    omega (arith, length_more n (omega arith), rw hundredth at (length_more (n / 10) (omega arith)))

-- the one digit stored, or the digits of the tenth and the last digit after them
module _ (out : List ℕ) (at n : ℕ) {left : List ℕ} {next : ℕ} where
  pub stored_one : n < 10 → Stored out at ((code "0" + n) ∷ []) left next → Stored out at (natural_on n []) left next
  stored_one h e = rw (natural_one n h) e

  pub stored_more : 10 ≤ n → {first : List ℕ} {last : ℕ} → Stored out at (natural_on (n / 10) []) first last
      → Stored first last ((code "0" + n % 10) ∷ []) left next → Stored out at (natural_on n []) left next
  stored_more h d e = rw (natural-more n h) (stored-both out at (natural_on (n / 10) []) ((code "0" + n % 10) ∷ []) d e)
