-- A plain text counted row by row: a stack holds the rows that are still to be counted. Each lies low enough that the stack has room for what it names.
use Prim.Native.Nat.{ℕ, suc, ◌+◌, ◌-◌, ◌^◌, ◌≤◌, ◌<◌}
use Prim.Native.Char.{code}
use mathlib.Core.Path.{◌≡◌, refl, ap, sym, ◌∙◌}
use mathlib.Core.Bool.{Bool, true, false}
use mathlib.Core.List.{List, [], ◌∷◌, ◌++◌}
use native.Mathlib.Nat.{pow-suc, one-le-pow, pow-le-pow_right}
use native.Mathlib.Omega.{arith}
use lib.ListN.{length}
use lib.Dec.{leb, ltb}
use borrow.Author.Tests.{le-leb, lt-leb, leb-true, leb-false}
use Rattle.format.specs.Rows.{Row}
use Rattle.format.specs.Text.{plain}
use Rattle.format.proofs.TableRows.{length-rows, judged}
use Rattle.table.specs.Words.{row_in}
use Rattle.text.specs.declared.rows.SoundRows.{SoundRows}
use Rattle.text.specs.declared.stack.Stack.{Stack}
use Rattle.text.specs.Stack.{on_stack, room_on}
use Rattle.text.specs.Rows.{rows_used, row_used, term_of, root_text}
use Rattle.text.proofs.Frames.{found}
use Rattle.measure.specs.Lengths.{text_length, named, own_length, total, row_length}
use Rattle.measure.proofs.Lengths.{text-after, by_names, right}

-- what is left to do: a row weighs more than the two that it names
unfoldable pub work : List ℕ → ℕ
work [] = 0
work (i ∷ stack) = 4 ^ i + work stack

lower_weight : (c i : ℕ) → c < i → 4 ^ c + 4 ^ c < 4 ^ i
lower_weight c i h = omega (arith, pow-suc 4 c, one-le-pow c 4 (omega arith), pow-le-pow_right {n = 4} (omega arith) {i = suc c} {j = i} h)

total-both : (length_of : ℕ → ℕ) (a b : List ℕ) → total length_of (a ++ b) ≡ total length_of a + total length_of b
unfolding total
total-both length_of [] b = omega arith
total-both length_of (i ∷ a) b = omega (arith, total-both length_of a b)

-- each row of a stack, and as many as lie under it, are fewer than n
abbrev Low : ℕ → List ℕ → Type 0
Low n [] = Unit {0}
Low n (i ∷ stack) = (i + length stack < n) × Low n stack

-- a test of a sum, with one part taken off both sides
same_test : (k n left : ℕ) → n ≤ left → leb k (left - n) ≡ leb (n + k) left
same_test k n left h = by (leb (n + k) left) refl
  where
    by : (q : Bool) → leb (n + k) left ≡ q → leb k (left - n) ≡ q
    by true e = le-leb k (left - n) (omega (arith, leb-true (n + k) left e))
    by false e = lt-leb k (left - n) (omega (arith, leb-false (n + k) left e))

-- the bytes still to be counted, with `$`, where these rows are
abbrev text_of : SoundRows → ℕ → ℕ
text_of t i = text_length (term_of t i)

abbrev pub to_count : SoundRows → List ℕ → ℕ
to_count t rest = total (text_of t) rest + 1

-- what is still to be counted has the room that is left exactly where all had the room at first
pub record Counting (t : SoundRows) (all room : ℕ) (rest : Stack) (left : ℕ) : Type 0 where
  pub stack_words : t.used ≤ room_on rest
  pub low : Low t.used (on_stack rest)
  pub count : leb (to_count t (on_stack rest)) left ≡ leb all room

module _ {t : SoundRows} {all room : ℕ} {rest : Stack} {left : ℕ} (m : Counting t all room rest left) where
  abbrev rows : List Row
  rows = rows_used t

  pub room-enough : on_stack rest ≡ [] → ltb 0 left ≡ leb all room
  unfolding total
  room-enough e = at-end (rw e at m.count)
    where
      at-end : leb 1 left ≡ leb all room → ltb 0 left ≡ leb all room
      at-end e = e

  -- row `top` is taken
  module _ {top : ℕ} {below : List ℕ} (taken : on_stack rest ≡ top ∷ below) where
    low-first : Low t.used (top ∷ below)
    low-first = rw taken at m.low

    inside : top < length rows
    inside = omega (arith, low-first.0, length-rows t.used t.rows.now)

    -- by what the row names
    by-top : (P : List ℕ → Type 0) → P [] → ((a : ℕ) → a < top → P (a ∷ [])) → ((a b : ℕ) → a < top → b < top → P (a ∷ b ∷ [])) → P (named (row_used t top))
    by-top = by_names t.message.now top (row_used t top) (judged t.message.now rows t.sound top inside).own

    -- the row read there
    module _ {r : Row} (e : r ≡ row_in t.rows.now top) where
      is : r ≡ row_used t top
      is = e ∙ found t top (omega (arith, low-first.0))

      pub named_fit : length below + length (named r) ≤ room_on rest
      named_fit =
          let fit : length below + length (named (row_used t top)) ≤ t.used
          = by-top (λ js. length below + length js ≤ t.used)
          (omega (arith, low-first.0))
          (λ a l. omega (arith, low-first.0))
          (λ a b l g. omega (arith, low-first.0)) in
          rw is (omega (arith, fit, m.stack_words))

      counted : to_count t (on_stack rest) ≡ own_length r + to_count t (named r ++ below)
      unfolding total row_length
      counted = rw (taken, is) (omega (arith, right t.message.now rows t.sound top inside, total-both (text_of t) (named (row_used t top)) (below)))

      module _ {n : ℕ} (own : n ≡ own_length r) where
        pub too_long : left < n → false ≡ leb all room
        too_long l = sym (lt-leb (to_count t (on_stack rest)) left (omega (arith, own, counted))) ∙ m.count

        -- the rows that it names are put on
        module _ (rest'' : Stack) (put : on_stack rest'' ≡ named r ++ below) where
          pub next : room_on rest'' ≡ room_on rest → n ≤ left → Counting t all room rest'' (left - n)
          next k l = record {
            stack_words = omega (arith, k, m.stack_words);
            low = rw (put, is)
                (by-top (λ js. Low t.used (js ++ below))
                low-first.1
                (λ a l. (omega (arith, low-first.0), low-first.1))
                (λ a b l g. (omega (arith, low-first.0), (omega (arith, low-first.0), low-first.1))));
            count = same_test (to_count t (on_stack rest'')) n left l ∙ ap (λ (k : ℕ). leb k left) (rw put (omega (arith, own, counted))) ∙ m.count;
          }

          pub less : work (on_stack rest'') < work (on_stack rest)
          unfolding work
          less = rw (put, taken, is)
              (by-top (λ js. work (js ++ below) < 4 ^ top + work (below))
              (omega (arith, one-le-pow top 4 (omega arith)))
              (λ a l. omega (arith, lower_weight a top l))
              (λ a b l g. omega (arith, lower_weight a top l, lower_weight b top g)))

-- all is counted from the root on
pub begins : (t : SoundRows) {rest : Stack} {room : ℕ} → t.used ≤ room_on rest → on_stack rest ≡ t.root.0 ∷ []
    → Counting t (to_count t (on_stack rest)) room rest room
begins t k e = record { stack_words = k; low = rw e (omega (arith, t.among), tt); count = refl }

pub whole : (t : SoundRows) {rest : List ℕ} → rest ≡ t.root.0 ∷ [] → to_count t rest ≡ length (root_text t)
unfolding total plain
whole t e = rw e (omega (arith, text-after (term_of t t.root.0) (code "$" ∷ [])))
