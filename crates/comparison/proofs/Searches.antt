-- The search for a row's class: among the rows of its own side before it, and of the side before its own.
use Prim.Native.Nat.{ℕ, ◌+◌, ◌-◌, ◌≤◌, ◌<◌}
use mathlib.Core.Path.{◌≡◌, ap, ap₂, sym, ◌∙◌}
use mathlib.Core.Bool.{Bool, true, ◌&&◌}
use mathlib.Core.List.{List, [], ◌∷◌, ◌++◌}
use native.Mathlib.Nat.{zero-add}
use native.Mathlib.Numerals.{add-one}
use native.Mathlib.Omega.{arith}
use lib.Dec.{eqb}
use lib.ListN.{length, get_or, take, set}
use lib.Seq.{get_or-take, take-suc-set}
use borrow.Author.Tests.{lt-ltb, le-ltb}
use Rattle.format.specs.Term.{Term}
use Rattle.format.specs.Bound.{message_bound, row_bound}
use Rattle.format.specs.Rows.{row_at, rows_of, row_room}
use Rattle.format.specs.Sound.{sound_table}
use Rattle.format.proofs.TableRows.{passed}
use Rattle.table.specs.Words.{row_in}
use Rattle.table.proofs.Rows.{row_of}
use Rattle.comparison.specs.Classes.{Side, Sound, term_in, joint_term, same_term, first_below, row_class, class_list}
use Rattle.comparison.specs.Same.{Placed, placed, SpanInside, same_class, same_row, leads}
use Rattle.comparison.proofs.Firsts.{same_first, first-left, first-right}
use Rattle.comparison.proofs.RowClasses.{same_class_lem, leader, class_listed}
use Rattle.comparison.proofs.SameRows.{span-inside, row_same}

-- a side's rows as they are read
abbrev pub rows_in : Side → ℕ → ℕ → Placed
rows_in s base i = placed s.message base (row_in s.words i)

-- row i of a side as it is read is row i of its rows
read : (s : Side) → Sound s → (i : ℕ) → i < s.used → row_in s.words i ≡ row_at (rows_of s.used s.words) i
read s ok i l = row_of s.words s.used i ok.count l

pub read-inside : (s : Side) → Sound s → (base i : ℕ) → i < s.used → SpanInside (rows_in s base i)
read-inside s ok base i l = rw (read s ok i l) (span-inside s ok i l base)

-- a sound table is a sound side, and its root is a row of it
module _ (s : Side) (root : ℕ) (sound : sound_table s.message s.words s.used root ≡ true) where
  pub sound-side : length s.message ≤ message_bound → Sound s
  sound-side short = let p = passed s.message s.words s.used root (rw sound tt) in record { short = short; count = p.fits; rows = p.rows }

  pub root-among : root < s.used
  root-among = (passed s.message s.words s.used root (rw sound tt)).among

-- so few rows that the numbers of both sides' rows fit a word
pub few : (s : Side) → Sound s → s.used ≤ row_bound
unfolding row_room
few s ok = omega (arith, ok.count)

module _ (a b : Side) where
  -- the rows of both sides in one numbering
  in_first : (i : ℕ) → i < a.used → joint_term a b (0 + i) ≡ term_in a i
  unfolding joint_term
  in_first i h = rw (zero-add i, lt-ltb i a.used h)

  in_second : (i : ℕ) → joint_term a b (a.used + i) ≡ term_in b i
  unfolding joint_term
  in_second i = let e : (a.used + i) - a.used ≡ i = omega arith in rw (le-ltb (a.used + i) a.used (omega arith), e)

  -- the classes of the rows before row n are known
  module _ (classes : List ℕ) (n : ℕ) (known : take n classes ≡ class_list (joint_term a b) n) where
    abbrev term : ℕ → Term
    term = joint_term a b

    known_at : (m : ℕ) → m < n → get_or classes m 0 ≡ row_class term m
    known_at m h = sym (get_or-take n classes m 0 h) ∙ ap (λ (l : List ℕ). get_or l m 0) known ∙ class_listed term n m h

    -- a side whose rows lie from `base` on
    record Lies (s : Side) (base : ℕ) : Type 0 where
      ok : Sound s
      at : (i : ℕ) → i < s.used → term (base + i) ≡ term_in s i

    -- row m is the first of its class, and has the term of row n
    abbrev leading : ℕ → Bool
    leading m = eqb (row_class term m) m && same_term (term m) (term n)

    class_as : row_class term n ≡ first_below leading n
    unfolding row_class
    class_as = sym (leader term (term n) n)

    -- row n is row j of the side y, read as r; it is looked for among the rows of the side x
    module _ (x y : Side) (base_x base_y : ℕ) (lx : Lies x base_x) (ly : Lies y base_y) (j : ℕ) (lj : j < y.used) (own : base_y + j ≡ n) where
      module _ (i : ℕ) (li : i < x.used) (h : base_x + i < n) where
        classes_tell : (p q : ℕ) → p < i → q < j → same_class classes base_x p base_y q ≡ same_term (term_in x p) (term_in y q)
        unfolding same_class
        classes_tell p q l g =
            rw (known_at (base_x + p) (omega arith), known_at (base_y + q) (omega arith))
            (same_class_lem term (base_x + p) (base_y + q) ∙ ap₂ same_term (lx.at p (omega arith)) (ly.at q (omega arith)))

        same_test : same_row classes (rows_in x base_x i) (rows_in y base_y j) ≡ same_term (term (base_x + i)) (term n)
        same_test =
            rw (read x lx.ok i li, read y ly.ok j lj)
            (row_same x y lx.ok ly.ok classes base_x base_y i j li lj classes_tell ∙ ap₂ same_term (sym (lx.at i li)) (sym (ly.at j lj) ∙ ap term own))

        test : leads classes (rows_in x base_x) (rows_in y base_y j) i ≡ leading (base_x + i)
        unfolding leads
        test = ap₂ ◌&&◌ (ap (λ (c : ℕ). eqb c (base_x + i)) (known_at (base_x + i) h)) same_test

      found_in : (count : ℕ) → count ≤ x.used → base_x + count ≤ n
          → first_below (leads classes (rows_in x base_x) (rows_in y base_y j)) count ≡ first_below (λ i. leading (base_x + i)) count
      found_in count l h = same_first _ _ count (λ i g. test i (omega arith) (omega arith))

    -- the first side's rows lie from 0 on
    from_zero : (count : ℕ) → first_below (λ i. leading (0 + i)) count ≡ first_below leading count
    from_zero count = same_first _ _ count (λ i l. ap leading (zero-add i))

    module _ (ok_a : Sound a) (ok_b : Sound b) where
      lies_first : Lies a 0
      lies_first = record { ok = ok_a; at = in_first }

      lies_second : Lies b a.used
      lies_second = record { ok = ok_b; at = λ i l. in_second i }

      -- row n is of the first side
      pub in_own_side : n < a.used → (c : ℕ) → c ≡ 0 + first_below (leads classes (rows_in a 0) (rows_in a 0 n)) n → c ≡ row_class term n
      in_own_side l c q =
          q ∙ zero-add _ ∙ found_in a a 0 0 lies_first lies_first n l (zero-add n) n (omega arith) (omega arith) ∙ from_zero n ∙ sym class_as

      -- row n is of the second side: it is looked for in the first, and then in its own
      module _ (j : ℕ) (lj : j < b.used) (own : a.used + j ≡ n) (c : ℕ)
          (q : c ≡ 0 + first_below (leads classes (rows_in a 0) (rows_in b a.used j)) a.used) where
        among : c ≡ first_below leading a.used
        among = q ∙ zero-add _ ∙ found_in a b 0 a.used lies_first lies_second j lj own a.used (omega arith) (omega arith) ∙ from_zero a.used

        pub in_other_side : c < a.used → c ≡ row_class term n
        in_other_side h = among ∙ sym (class_as ∙ ap (first_below leading) (sym own) ∙ first-left leading a.used j (omega (arith, among)))

        pub in_second_side : a.used ≤ c → (d : ℕ) → d ≡ a.used + first_below (leads classes (rows_in b a.used) (rows_in b a.used j)) j → d ≡ row_class term n
        in_second_side h d p =
            p ∙ ap (λ (m : ℕ). a.used + m) (found_in b b a.used a.used lies_second lies_second j lj own j (omega arith) (omega arith))
            ∙ sym (class_as ∙ ap (first_below leading) (sym own) ∙ first-right leading a.used j (omega (arith, among)))

  -- the classes of the roots tell whether the tables' terms are the same
  pub roots : (i j : ℕ) → i < a.used → j < b.used → same_class (class_list (joint_term a b) (a.used + b.used)) 0 i a.used j ≡ same_term (term_in a i) (term_in b j)
  unfolding same_class
  roots i j h g =
      rw (class_listed (joint_term a b) (a.used + b.used) (0 + i) (omega arith), class_listed (joint_term a b) (a.used + b.used) (a.used + j) (omega arith))
      (same_class_lem (joint_term a b) (0 + i) (a.used + j) ∙ ap₂ same_term (in_first i h) (in_second j))

-- the classes of the first n rows are known, and that of row n is stored
pub one_more : (term : ℕ → Term) (classes : List ℕ) (n c : ℕ) → n < length classes → take n classes ≡ class_list term n → c ≡ row_class term n
    → take (n + 1) (set classes n c) ≡ class_list term (n + 1)
unfolding class_list
one_more term classes n c h known e = rw (add-one n) (take-suc-set classes n c h ∙ ap₂ (λ (l : List ℕ) (m : ℕ). l ++ (m ∷ [])) known e)
