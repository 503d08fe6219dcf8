-- Integers, by what their reader answers.
use Prim.Native.Nat.{ℕ, suc, ◌+◌, ◌-◌, ◌^◌, ◌/◌, ◌%◌}
use Prim.Native.Char.{code}
use mathlib.Core.Path.{◌≡◌, refl, sym, subst}
use mathlib.Core.Bool.{Bool, true, false, cond}
use mathlib.Core.List.{List, [], ◌∷◌}
use lib.IntN.{ℤ}
use lib.ListN.{length}
use Rattle.std.specs.Prelude.{Result, Ok, Err}
use Rattle.format.specs.Bits.{to_bits}
use Rattle.format.specs.Byte as B
use Rattle.format.specs.Byte.{has_class}
use Rattle.format.specs.Lex as L
use Rattle.format.specs.Lex.{Item, in_range, digits, integer_of, negative}
use Rattle.format.specs.Machine as M
use Rattle.format.specs.Machine.{step}
use Rattle.format.specs.Rows.{row, make_rows, add, integer_kind, integer_row}
use Rattle.format.specs.Answer.{Tables}
use Rattle.format.specs.declared.Offset.{Offset}
use Rattle.lexer.specs.Integer.{with_sign, value_after, ran_from, digits_after, integer_from}
use Rattle.lexer.specs.declared.integer.Begun.{Begun}
use Rattle.lexer.specs.declared.integer.Begun.TheVariants.{Minus, Digits}
use Rattle.lexer.specs.declared.integer.Integer.{Integer}
use Rattle.lexer.specs.declared.integer.NoInteger.{NoInteger}
use Rattle.lexer.specs.declared.integer.NoInteger.TheVariants.{OutOfRange, Stray, Ended}
use Rattle.machine.specs.Held.{State}
use Rattle.machine.specs.Held.{machine_of, going, refusing, taken, with_row, made}
use Rattle.literals.specs.Readers.{no_integer_as, begun_item}
use Rattle.machine.proofs.Limits.{refused-step}

-- an integer of so many bytes from p on, and its bits
pub record IsInteger (p bits : ℕ) (end : Offset) (i : Item) : Type 0 where
  pub value : ℤ
  pub bytes : ℕ
  pub item : i ≡ L.integer_item value bytes
  pub same : bits ≡ to_bits 64 value
  pub place : end.0 ≡ p + bytes

-- what the reader answers tells the item
abbrev Tells : ℕ → Result Integer NoInteger → Item → Type 0
Tells p (Ok n) i = IsInteger p n.bits n.end i
Tells p (Err OutOfRange) i = i ≡ L.too_large
Tells p (Err (Stray q)) i = (i ≡ L.stray 1) × (q.0 ≡ p)
Tells p (Err (Ended begun)) i = i ≡ L.cut

ran-tells : (minus : Bool) (p last : ℕ) (d : L.Digits) → Tells p (ran_from minus p last d) (integer_of (with_sign minus) d)
unfolding ran_from integer_of
ran-tells minus p last L.unfinished = refl
ran-tells minus p last (L.value v k) = by (in_range (with_sign minus v))
  where
    by : (q : Bool) → Tells p (cond q (Ok (record { bits = to_bits 64 (with_sign minus v); end = record { 0 = p + k } })) (Err OutOfRange)) (cond q (L.integer_item (with_sign minus v) k) L.too_large)
    by true = record { value = with_sign minus v; bytes = k; item = refl; same = refl; place = refl }
    by false = refl

tells : (begun : Begun) (p : ℕ) (r : List ℕ) → Tells p (integer_from begun p r) (begun_item begun r)
unfolding integer_from begun_item digits_after negative with_sign
tells (Digits minus v) p r = ran-tells minus p (value_after v r) (digits v 0 r)
tells Minus p [] = refl
tells Minus p (c ∷ r) = by (has_class B.digit c)
  where
    by : (q : Bool) → Tells p (cond q (digits_after true p 1 (c - code "0") r) (Err (Stray (record { 0 = p })))) (cond q (integer_of (with_sign true) (digits (c - code "0") 1 r)) (L.stray 1))
    by true = ran-tells true p (value_after (c - code "0") r) (digits (c - code "0") 1 r)
    by false = (refl, refl)

pub integer : (begun : Begun) (p : ℕ) (r : List ℕ) (n : Integer) → integer_from begun p r ≡ Ok n → IsInteger p n.bits n.end (begun_item begun r)
integer begun p r n e = subst (λ (x : Result Integer NoInteger). Tells p x (begun_item begun r)) e (tells begun p r)

module _ (t : Tables) (s : State) (r : List ℕ) (begun : Begun) where
  pub integer-made : {bits : ℕ} {end : Offset} (i : IsInteger (s.at.0 + 1) bits end (begun_item begun r))
      → made t s s.depth.0 i.bytes (row integer_kind (bits / 2 ^ 32) (bits % 2 ^ 32) 0) ≡ taken t s r (begun_item begun r)
  unfolding taken made step machine_of M.fresh make_rows add with_row integer_row
  integer-made i = rw (i.item, ← i.same) refl

  -- the refusal where there is none
  pub no_integer : (ended : Offset) → ended.0 ≡ suc s.at.0 + length r → (why : NoInteger) → integer_from begun (s.at.0 + 1) r ≡ Err why → refusing (no_integer_as why s.at ended) t ≡ taken t s r (begun_item begun r)
  unfolding no_integer_as going taken step
  no_integer ended last why e = by why (subst (λ (x : Result Integer NoInteger). Tells (s.at.0 + 1) x (begun_item begun r)) e (tells begun (s.at.0 + 1) r))
    where
      by : (why : NoInteger) → Tells (s.at.0 + 1) (Err why) (begun_item begun r) → refusing (no_integer_as why s.at ended) t ≡ taken t s r (begun_item begun r)
      by OutOfRange h = rw h (sym (refused-step t s 5 s.at.0))
      by (Stray p) h = rw (h.0, h.1) (sym (refused-step t s 4 (s.at.0 + 1)))
      by (Ended b) h = rw (h, last) (sym (refused-step t s 3 (suc s.at.0 + length r)))
