-- Runs of plain bytes: how the end of one is found, by bytes and by blocks, and what stands before that place and at it.
use Prim.Native.Nat.{ℕ, zero, suc, ◌+◌, ◌≤◌, ◌<◌}
use Prim.Native.Char.{code}
use mathlib.Core.Path.{◌≡◌, refl, ap, sym, ◌∙◌}
use mathlib.Core.Bool.{Bool, true, false, ◌||◌, cond}
use mathlib.Core.List.{List, [], ◌∷◌}
use native.Mathlib.Omega.{arith}
use lib.ListN.{length, length-drop, take, drop, get_or, drop_of_length-le}
use lib.Seq.{get_or-drop, length-take-le, drop-cons, drop-drop}
use lib.Dec.{eqb}
use borrow.Author.Tests.{eq-eqb, ne_eqb, eqb-true}
use Rattle.std.proofs.lemmas.List.{drop-take}
use Rattle.scan.specs.Plain.{is_mark, plain_count, plain_end, mark_count}

-- a mark by its two tests
module _ (quote b : ℕ) where
  quote_is_mark : b ≡ quote → is_mark quote b ≡ true
  unfolding is_mark
  quote_is_mark e = rw (eq-eqb _ _ e)

  backslash-is_mark : b ≡ 92 → is_mark quote b ≡ true
  unfolding is_mark
  backslash-is_mark e = either (eqb b quote)
    where
      either : (q : Bool) → (q || eqb b (code "\\")) ≡ true
      either true = refl
      either false = eq-eqb _ _ e

  pub no_mark : (b ≡ quote → ⊥) → (b ≡ 92 → ⊥) → is_mark quote b ≡ false
  unfolding is_mark
  no_mark n m = rw (ne_eqb _ _ n, ne_eqb _ _ m)

  module _ (plain : is_mark quote b ≡ false) where
    pub no_quote : b ≡ quote → ⊥
    no_quote e = let z : true ≡ false = sym (quote_is_mark e) ∙ plain in cc

    pub no_backslash : b ≡ 92 → ⊥
    no_backslash e = let z : true ≡ false = sym (backslash-is_mark e) ∙ plain in cc

  pub is-backslash : is_mark quote b ≡ true → (b ≡ quote → ⊥) → b ≡ 92
  unfolding is_mark
  is-backslash m n = eqb-true _ _ (rw (ne_eqb _ _ n) at m)

  pub not-counted : {n : ℕ} → n ≡ mark_count quote b → n ≡ 0 → is_mark quote b ≡ false
  unfolding mark_count
  not-counted e z = by (is_mark quote b) e z
    where
      by : {n : ℕ} (t : Bool) → n ≡ cond t 1 0 → n ≡ 0 → t ≡ false
      by true e z = absurd (omega arith)
      by false e z = refl

module _ (quote : ℕ) where
  -- n bytes are plain, and the next one, if there is one, is a mark
  record Counted (l : List ℕ) (n : ℕ) : Type 0 where
    pub within : n ≤ length l
    pub plain : (k : ℕ) → k < n → is_mark quote (get_or l k 0) ≡ false
    pub stops : n < length l → is_mark quote (get_or l n 0) ≡ true

  counted : (l : List ℕ) → Counted l (plain_count quote l)
  unfolding plain_count
  counted [] = record { within = omega arith; plain = λ k h. absurd (omega arith); stops = λ h. absurd (omega arith) }
  counted (b ∷ r) = by (is_mark quote b) refl (counted r)
    where
      by : (q : Bool) → is_mark quote b ≡ q → Counted r (plain_count quote r) → Counted (b ∷ r) (plain_count quote (b ∷ r))
      by true e c = rw (plain_count, e) (record { within = omega arith; plain = λ k h. absurd (omega arith); stops = λ h. e })
      by false e c = rw (plain_count, e) (record { within = omega (arith, c.within); plain = before; stops = λ h. c.stops (omega arith) })
        where
          before : (k : ℕ) → k < suc (plain_count quote r) → is_mark quote (get_or (b ∷ r) k 0) ≡ false
          before zero h = e
          before (suc k) h = c.plain k (omega arith)

  -- the first bytes all plain: the rest counts as it does alone
  passed : (n : ℕ) (l : List ℕ) → n ≤ plain_count quote (take n l) → plain_count quote l ≡ n + plain_count quote (drop n l)
  unfolding plain_count
  passed zero l h = omega arith
  passed (suc n) [] h = absurd (omega arith)
  passed (suc n) (b ∷ r) h = by (is_mark quote b) refl h (passed n r)
    where
      by : (q : Bool) → is_mark quote b ≡ q → suc n ≤ plain_count quote (take (suc n) (b ∷ r))
          → (n ≤ plain_count quote (take n r) → plain_count quote r ≡ n + plain_count quote (drop n r))
          → plain_count quote (b ∷ r) ≡ suc n + plain_count quote (drop n r)
      by true e h more = absurd (omega (arith, rw (plain_count, e) at h))
      by false e h more = rw (plain_count, e) (omega (arith, more (omega (arith, rw (plain_count, e) at h))))

  -- a mark among the first bytes ends the count
  stopped : (n : ℕ) (l : List ℕ) → plain_count quote (take n l) < n → plain_count quote (take n l) ≡ plain_count quote l
  unfolding plain_count
  stopped zero l h = absurd (omega arith)
  stopped (suc n) [] h = refl
  stopped (suc n) (b ∷ r) h = by (is_mark quote b) refl h (stopped n r)
    where
      by : (q : Bool) → is_mark quote b ≡ q → plain_count quote (take (suc n) (b ∷ r)) < suc n
          → (plain_count quote (take n r) < n → plain_count quote (take n r) ≡ plain_count quote r)
          → plain_count quote (take (suc n) (b ∷ r)) ≡ plain_count quote (b ∷ r)
      by true e h more = rw (plain_count, e)
      by false e h more = rw (plain_count, e) (ap suc (more (omega (arith, rw (plain_count, e) at h))))

  module _ (l : List ℕ) where
    by_count : (i : ℕ) → plain_end quote l i ≡ i + plain_count quote (drop i l)
    unfolding plain_end
    by_count i = refl

    pub past : (i : ℕ) → length l ≤ i → i ≡ plain_end quote l i
    unfolding plain_end plain_count
    past i h = rw (drop_of_length-le l h) (omega arith)

    module _ (i : ℕ) (h : i < length l) where
      at_byte : (q : Bool) → is_mark quote (get_or l i 0) ≡ q
          → plain_count quote (drop i l) ≡ elim q [ true ↦ 0 | false ↦ suc (plain_count quote (drop (suc i) l)) ]
      unfolding plain_count
      at_byte true e = rw (drop-cons l i 0 h, plain_count, e)
      at_byte false e = rw (drop-cons l i 0 h, plain_count, e)

      pub stays : is_mark quote (get_or l i 0) ≡ true → i ≡ plain_end quote l i
      stays e = omega (arith, by_count i, at_byte true e)

      pub next : is_mark quote (get_or l i 0) ≡ false → plain_end quote l (i + 1) ≡ plain_end quote l i
      next e =
          let on : i + 1 ≡ suc i = omega arith in
          rw on (omega (arith, by_count i, by_count (suc i), at_byte false e))

    -- n bytes from i on, looked at alone: all plain, they are passed; and a mark among them is the first one from i on
    module _ (i n : ℕ) where
      pub block : i + n ≤ length l → plain_end quote (take n (drop i l)) 0 ≡ length (take n (drop i l))
          → plain_end quote l (i + n) ≡ plain_end quote l i
      unfolding plain_end
      block h e =
          let size : length (take n (drop i l)) ≡ n = length-take-le n (drop i l) (rw (length-drop i l) (omega arith)) in
          omega (arith, rw (drop-drop n i l) at (passed n (drop i l) (omega (arith, e, size))))

      pub soon-none : i + n ≤ plain_end quote (take (i + n) l) i → plain_end quote l (i + n) ≡ plain_end quote l i
      unfolding plain_end
      soon-none e = omega (arith, rw (drop-drop n i l) at (passed n (drop i l) (omega (arith, rw (drop-take i n l) at e))))

      pub soon-one : plain_end quote (take (i + n) l) i < i + n → plain_end quote (take (i + n) l) i ≡ plain_end quote l i
      unfolding plain_end
      soon-one e =
          let at = rw (drop-take i n l) at e in
          rw (drop-take i n l) (omega (arith, stopped n (drop i l) (omega (arith, at))))

    -- the bytes from `from` on and before the place found, and the byte there
    module _ (from : ℕ) where
      pub not-before : {p : ℕ} → p ≡ plain_end quote l from → from ≤ p
      not-before e = omega (arith, e, by_count from)

      pub within : from ≤ length l → plain_end quote l from ≤ length l
      within h = omega (arith, by_count from, (counted (drop from l)).within, length-drop from l)

      pub stops : plain_end quote l from < length l → is_mark quote (get_or l (plain_end quote l from) 0) ≡ true
      stops h =
          rw (by_count from, sym (get_or-drop from l (plain_count quote (drop from l)) 0))
          ((counted (drop from l)).stops (omega (arith, by_count from, length-drop from l)))

      -- what each plain byte passes on, a run passes on
      module _ (P : ℕ → Type 0) (start : P from)
          (step : (k : ℕ) → k < plain_end quote l from → is_mark quote (get_or l k 0) ≡ false → P k → P (k + 1)) where
        up_to : (n : ℕ) → n ≤ plain_count quote (drop from l) → P (from + n)
        up_to zero h = let e : from + 0 ≡ from = omega arith in rw e start
        up_to (suc n) h =
            let e : from + suc n ≡ (from + n) + 1 = omega arith in
            let plain = rw (get_or-drop from l n 0) at ((counted (drop from l)).plain n (omega arith)) in
            rw e (step (from + n) (omega (arith, by_count from)) plain (up_to n (omega arith)))

        pub along : P (plain_end quote l from)
        along = rw (by_count from) (up_to (plain_count quote (drop from l)) (omega arith))
