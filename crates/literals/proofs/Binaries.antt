-- `~`, and what it asks of the rows on the stack.
use Prim.Native.Nat.{ℕ, suc, ◌+◌, ◌*◌, ◌-◌, ◌^◌, ◌≤◌, ◌<◌}
use Prim.Native.Char.{code}
use mathlib.Core.Path.{◌≡◌, refl, ◌∙◌}
use mathlib.Core.Option.{Option, none, some}
use mathlib.Core.List.{List}
use native.Mathlib.Numerals.{add-one}
use native.Mathlib.Omega.{arith}
use lib.IntN.{ℤ, pos, negsuc}
use lib.ListN.{length, get_or, take, drop, length-drop}
use lib.Seq.{length-take-le, get_or-drop}
use borrow.Author.Tests.{lt-ltb, le-ltb, le-leb, lt-leb, eq-eqb, ne_eqb}
use Rattle.std.specs.Prelude.{Ok, Err}
use Rattle.format.specs.Number.{number_of}
use Rattle.format.specs.declared.refusal.Refusal.{Refusal}
use Rattle.format.specs.declared.refusal.Refusal.TheVariants.{WrongKind, Negative}
use Rattle.format.specs.Bits.{from_bits}
use Rattle.format.specs.Lex.{tilde_item}
use Rattle.format.specs.Machine as M
use Rattle.format.specs.Machine.{base, step}
use Rattle.format.specs.Rows.{Row, row, row_values, row_integer, integer_of_row, make_rows, add, integer_kind, binary_kind, span_row}
use Rattle.format.specs.Answer.{Tables, tables}
use Rattle.table.specs.Words.{row_in, last_first}
use Rattle.machine.specs.Held.{State}
use Rattle.machine.specs.Held.{Ready, Turn, stops, machine_of, limited, taken, with_row, made}
use Rattle.literals.specs.Readers.{count_as}
use Rattle.machine.proofs.Limits.{refused-step}
use Rattle.machine.proofs.Pops.{pop-few, pop-top, held-row}

-- the count that a row is
module _ (x : Row) where
  pub is_no_count : ¬ (x.kind ≡ integer_kind) → Err WrongKind ≡ count_as (row_integer x)
  unfolding row_integer count_as
  is_no_count h = rw (ne_eqb x.kind integer_kind h) refl

  module _ (k : x.kind ≡ integer_kind) (low : x.second < 2 ^ 32) where
    pub is_negative : 2 ^ 31 ≤ x.first → Err Negative ≡ count_as (row_integer x)
    unfolding row_integer integer_of_row from_bits count_as
    is_negative h = rw (eq-eqb x.kind integer_kind k, le-ltb (x.first * 2 ^ 32 + x.second) (2 ^ 63) (omega arith)) refl

    pub is-count : x.first < 2 ^ 31 → Ok (x.first * 2 ^ 32 + x.second) ≡ count_as (row_integer x)
    unfolding row_integer integer_of_row from_bits count_as
    is-count h = rw (eq-eqb x.kind integer_kind k, lt-ltb (x.first * 2 ^ 32 + x.second) (2 ^ 63) (omega arith)) refl

-- what a count tells of a row's integer
count_of : (o : Option ℤ) (n : ℕ) → count_as o ≡ Ok n → o ≡ some (pos n)
unfolding count_as
count_of none n e = cc
count_of (some (negsuc k)) n e = cc
count_of (some (pos k)) n e = let same : k ≡ n = cc in rw same refl

module _ (rows stack marks registers : List ℕ) (s : State) (r : List ℕ) where
  pub binary-few : s.depth.0 ≤ base (last_first marks s.marks) → taken (tables rows stack marks registers) s r tilde_item ≡ stops 6 s.at.0 (tables rows stack marks registers)
  unfolding taken step machine_of
  binary-few h = rw (pop-few s.at.0 (last_first marks s.marks) stack _ s.depth.0 h) (refused-step (tables rows stack marks registers) s 6 s.at.0)

  module _ (h : Ready (tables rows stack marks registers) s) (g : base (last_first marks s.marks) < s.depth.0) (v : ℕ) (e : v ≡ get_or stack (s.depth.0 - 1) 0) where
    -- the count popped
    pub binary-popped : taken (tables rows stack marks registers) s r tilde_item
        ≡ limited (tables rows stack marks registers) s (M.take_binary row_values s.at.0 r (machine_of (tables rows stack marks registers) s) (last_first stack (s.depth.0 - 1)) (row_integer (row_in rows v)))
    unfolding taken step machine_of
    binary-popped = rw (pop-top s.at.0 (last_first marks s.marks) stack _ s.depth.0 g, ← e, held-row (tables rows stack marks registers) s h (s.depth.0 - 1) (omega arith) v e) refl

    -- with no count, the refusal that tells why
    pub binary-no_count : (k : Refusal) → count_as (row_integer (row_in rows v)) ≡ Err k → taken (tables rows stack marks registers) s r tilde_item ≡ stops (number_of k) s.at.0 (tables rows stack marks registers)
    unfolding M.take_binary count_as
    binary-no_count k q = binary-popped ∙ by (row_integer (row_in rows v)) k q
      where
        by : (o : Option ℤ) (k : Refusal) → count_as o ≡ Err k
            → limited (tables rows stack marks registers) s (M.take_binary row_values s.at.0 r (machine_of (tables rows stack marks registers) s) (last_first stack (s.depth.0 - 1)) o)
            ≡ stops (number_of k) s.at.0 (tables rows stack marks registers)
        by none k e =
            let same : WrongKind ≡ k = cc in
            rw (← same) (refused-step (tables rows stack marks registers) s 7 s.at.0)
        by (some (negsuc n)) k e =
            let same : Negative ≡ k = cc in
            rw (← same) (refused-step (tables rows stack marks registers) s 8 s.at.0)
        by (some (pos n)) k e = cc

    pub binary_of : (n : ℕ) → count_as (row_integer (row_in rows v)) ≡ Ok n → taken (tables rows stack marks registers) s r tilde_item
        ≡ limited (tables rows stack marks registers) s (M.take_binary row_values s.at.0 r (machine_of (tables rows stack marks registers) s) (last_first stack (s.depth.0 - 1)) (some (pos n)))
    binary_of n q = rw (← count_of (row_integer (row_in rows v)) n q) binary-popped

-- the bytes of a binary, whose count is n
module _ (message : List ℕ) (t : Tables) (s : State) (n : ℕ) (here : s.at.0 < length message) where
  abbrev rest : List ℕ
  rest = drop (s.at.0 + 1) message

  abbrev bytes_taken : Turn
  bytes_taken = limited t s (M.take_binary row_values s.at.0 rest (machine_of t s) (last_first t.stack (s.depth.0 - 1)) (some (pos n)))

  left : length rest ≡ length message - (s.at.0 + 1)
  left = length-drop (s.at.0 + 1) message

  pub bytes_3 : length message - (s.at.0 + 1) ≤ n → bytes_taken ≡ stops 3 (length message) t
  unfolding M.take_binary
  bytes_3 h =
      let last : suc s.at.0 + length rest ≡ length message = omega (arith, left) in
      rw (le-leb (length rest) n (omega (arith, left)), ← last) (refused-step t s 3 (suc s.at.0 + length rest))

  module _ (h : n < length message - (s.at.0 + 1)) where
    pub bytes_4 : ¬ (get_or message (s.at.0 + 1 + n) 0 ≡ code "~") → bytes_taken ≡ stops 4 (s.at.0 + 1 + n) t
    unfolding M.take_binary
    bytes_4 g =
        let place : suc s.at.0 + n ≡ s.at.0 + 1 + n = omega arith in
        rw (lt-leb (length rest) n (omega (arith, left)), get_or-drop (s.at.0 + 1) message n 0, ne_eqb _ (code "~") g, ← place) (refused-step t s 4 (suc s.at.0 + n))

    pub bytes-made : get_or message (s.at.0 + 1 + n) 0 ≡ code "~" → made t s (s.depth.0 - 1) (suc n) (row binary_kind (s.at.0 + 1) n 0) ≡ bytes_taken
    unfolding M.take_binary made M.fresh make_rows add with_row span_row
    bytes-made g =
        let count : length (take n rest) ≡ n = length-take-le n rest (omega (arith, left)) in
        rw (lt-leb (length rest) n (omega (arith, left)), get_or-drop (s.at.0 + 1) message n 0, eq-eqb _ (code "~") g, count, ← add-one s.at.0) refl
