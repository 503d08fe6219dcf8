-- Theorem 6, second half: how many bytes a term's text has, and that it stands in front of whatever follows it.
use Prim.Native.Nat.{ℕ, zero, suc, ◌+◌, ◌/◌, ◌%◌, ◌^◌, ◌≤◌, ◌<◌}
use Prim.Native.Char.{code}
use mathlib.Core.Path.{◌≡◌, refl, ap, sym, ◌∙◌}
use mathlib.Core.Bool.{true, false}
use mathlib.Core.List.{List, [], ◌∷◌, ◌++◌, append_assoc}
use native.Mathlib.Omega.{arith}
use lib.IntN.{ℤ, pos, negsuc}
use lib.ListN.{length, length-append}
use lib.Dec.{ltb, T, ltb→lt}
use borrow.Author.Tests.{ltb-false}
use Rattle.format.specs.Term as T
use Rattle.format.specs.Term.{Term, Terms, ◌then◌}
use Rattle.format.specs.Text.{digits_on, natural_on, decimal_on, between, text_on, items_on, fields_on, plain}
use Rattle.format.specs.Lex.{in_range}

-- how many digits digits_on writes
unfoldable pub digit_count : ℕ → ℕ → ℕ
digit_count zero n = 1
digit_count (suc f) n = elim (ltb n 10) [ true ↦ 1 | false ↦ suc (digit_count f (n / 10)) ]

unfoldable pub natural_size : ℕ → ℕ
natural_size n = digit_count n n

unfoldable pub decimal_size : ℤ → ℕ
decimal_size (pos n) = natural_size n
decimal_size (negsuc n) = suc (natural_size (suc n))

-- the bytes of a term's text, counted without the text
unfoldable mutual
  pub size : Term → ℕ
  size (T.int z) = decimal_size z + 1
  size (T.atom b) = length b + 2
  size (T.string b) = length b + 2
  size (T.binary b) = natural_size (length b) + length b + 2
  size (T.list ts) = items_size ts + 1
  size (T.tuple ts) = fields_size ts + 2
  size (T.tag b t) = size t + length b + 2

  pub items_size : Terms → ℕ
  items_size T.none = 0
  items_size (t then ts) = size t + 1 + items_size ts

  pub fields_size : Terms → ℕ
  fields_size T.none = 0
  fields_size (t then ts) = size t + fields_size ts

digits-size : (f n : ℕ) (a : List ℕ) → length (digits_on f n a) ≡ digit_count f n + length a
unfolding digits_on digit_count
digits-size zero n a = omega arith
digits-size (suc f) n a = grind (arith, digits-size f (n / 10) ((code "0" + n % 10) ∷ a))

natural-size : (n : ℕ) (a : List ℕ) → length (natural_on n a) ≡ natural_size n + length a
unfolding natural_on natural_size
natural-size n a = digits-size n n a

decimal_size_lem : (z : ℤ) (a : List ℕ) → length (decimal_on z a) ≡ decimal_size z + length a
unfolding decimal_on decimal_size
decimal_size_lem (pos n) a = natural-size n a
decimal_size_lem (negsuc n) a = omega (arith, natural-size (suc n) a)

mutual
  unfolding text_on size

  text-size : (t : Term) (a : List ℕ) → length (text_on t a) ≡ size t + length a
  text-size (T.list ts) a = omega (arith, items_size_lem ts a)
  text-size (T.tuple ts) a = omega (arith, fields_size_lem ts (code "}" ∷ a))
  text-size (T.tag b t) a = omega (arith, text-size t (between (code "`") b a), length-append b (code "`" ∷ a))
  text-size _ a = grind (arith, decimal_size_lem, natural-size, length-append)

  items_size_lem : (ts : Terms) (a : List ℕ) → length (items_on ts a) ≡ items_size ts + length a
  items_size_lem T.none a = omega arith
  items_size_lem (t then ts) a = omega (arith, items_size_lem ts (text_on t (code "&" ∷ a)), text-size t (code "&" ∷ a))

  fields_size_lem : (ts : Terms) (a : List ℕ) → length (fields_on ts a) ≡ fields_size ts + length a
  fields_size_lem T.none a = omega arith
  fields_size_lem (t then ts) a = omega (arith, text-size t (fields_on ts a), fields_size_lem ts a)

-- the text, and `$`
pub plain_size : (t : Term) → length (plain t) ≡ size t + 1
unfolding plain
plain_size t = text-size t (code "$" ∷ [])

digits-bound : (f n k : ℕ) → n < 10 ^ suc k → digit_count f n ≤ suc k
unfolding digit_count
digits-bound zero n k h = omega arith
digits-bound (suc f) n zero h = grind (arith, ltb-false n 10)
digits-bound (suc f) n (suc j) h = grind (arith, digits-bound f (n / 10) j)

-- a number below 10 ^ k has at most k digits
pub natural-bound : (n k : ℕ) → n < 10 ^ suc k → length (natural_on n []) ≤ suc k
unfolding natural_size
natural-bound n k h = omega (arith, natural-size n [], digits-bound n n k h)

-- 2 ^ 63 has 19 digits; a sign and the blank go with them
pub integer-text : (z : ℤ) → T (in_range z) → length (text_on (T.int z) []) ≤ 21
unfolding text_on in_range decimal_size natural_size
integer-text (pos n) h = omega (arith, decimal_size_lem (pos n) (code " " ∷ []), digits-bound n n 18 (omega (arith, ltb→lt n (2 ^ 63) h)))
integer-text (negsuc n) h = omega (arith, decimal_size_lem (negsuc n) (code " " ∷ []), digits-bound (suc n) (suc n) 18 (omega (arith, ltb→lt n (2 ^ 63) h)))

digits_onto : (f n : ℕ) (a b : List ℕ) → digits_on f n (a ++ b) ≡ digits_on f n a ++ b
unfolding digits_on
digits_onto zero n a b = refl
digits_onto (suc f) n a b = grind (arith, digits_onto f (n / 10) ((code "0" + n % 10) ∷ a) b)

pub natural_onto : (n : ℕ) (a b : List ℕ) → natural_on n (a ++ b) ≡ natural_on n a ++ b
unfolding natural_on
natural_onto n a b = digits_onto n n a b

decimal_onto : (z : ℤ) (a b : List ℕ) → decimal_on z (a ++ b) ≡ decimal_on z a ++ b
unfolding decimal_on
decimal_onto (pos n) a b = natural_onto n a b
decimal_onto (negsuc n) a b = ap (λ (l : List ℕ). code "-" ∷ l) (natural_onto (suc n) a b)

pub between_onto : (quote : ℕ) (x a b : List ℕ) → between quote x (a ++ b) ≡ between quote x a ++ b
between_onto quote x a b = ap (λ (l : List ℕ). quote ∷ l) (sym (append_assoc x (quote ∷ a) b))

-- what follows a text is no part of it
mutual
  unfolding text_on

  pub text_onto : (t : Term) (a b : List ℕ) → text_on t (a ++ b) ≡ text_on t a ++ b
  text_onto (T.int z) a b = decimal_onto z (code " " ∷ a) b
  text_onto (T.atom x) a b = between_onto (code "'") x a b
  text_onto (T.string x) a b = between_onto (code "\"") x a b
  text_onto (T.binary x) a b = ap (natural_on (length x)) (between_onto (code "~") x a b) ∙ natural_onto (length x) (between (code "~") x a) b
  text_onto (T.list ts) a b = ap (λ (l : List ℕ). code "#" ∷ l) (items_onto ts a b)
  text_onto (T.tuple ts) a b = ap (λ (l : List ℕ). code "{" ∷ l) (fields_onto ts (code "}" ∷ a) b)
  text_onto (T.tag x t) a b = ap (text_on t) (between_onto (code "`") x a b) ∙ text_onto t (between (code "`") x a) b

  items_onto : (ts : Terms) (a b : List ℕ) → items_on ts (a ++ b) ≡ items_on ts a ++ b
  items_onto T.none a b = refl
  items_onto (t then ts) a b = ap (items_on ts) (text_onto t (code "&" ∷ a) b) ∙ items_onto ts (text_on t (code "&" ∷ a)) b

  fields_onto : (ts : Terms) (a b : List ℕ) → fields_on ts (a ++ b) ≡ fields_on ts a ++ b
  fields_onto T.none a b = refl
  fields_onto (t then ts) a b = ap (text_on t) (fields_onto ts a b) ∙ text_onto t (fields_on ts a) b
