-- The run's loop: what holds before each item, and what the item and the end make of it.
use Prim.Native.Nat.{ℕ, suc, ◌+◌, ◌*◌, ◌≤◌, ◌<◌}
use mathlib.Core.Path.{◌≡◌, refl, ap, sym, ◌∙◌}
use mathlib.Core.Bool.{false}
use mathlib.Core.List.{List, ◌∷◌}
use native.Mathlib.Numerals.{add-one}
use native.Mathlib.Omega.{arith}
use lib.Dec.{ltb}
use borrow.Author.Tests.{ltb-false}
use lib.ListN.{length, drop, get_or, drop_of_length-le}
use Rattle.format.specs.Lex.{lex}
use Rattle.format.specs.Machine as M
use Rattle.format.specs.Machine.{run_from}
use Rattle.format.specs.Rows.{row_words, row_values}
use Rattle.format.specs.Answer.{zeroed, limits_of, rows_in}
use Rattle.format.specs.declared.Offset.{Offset}
use Rattle.format.specs.declared.Row.{Row as RowNumber}
use Rattle.format.proofs.Unchanged.{same-limits}
use Rattle.table.specs.Words.{cleared_from}
use Rattle.table.proofs.Cleared.{cleared-rows}
use Rattle.lexer.proofs.Bytes.{byte_at}
use Rattle.std.proofs.Math.Option.{Option}
use Rattle.std.specs.Prelude.{Ok, Err}
use Rattle.format.specs.declared.refusal.Refused.{Refused}
use Rattle.format.specs.declared.refusal.Refusal.TheVariants as Why
use Rattle.machine.specs.declared.state.Machine.{Machine as Lent}
use Rattle.std.specs.declared.ops.ControlFlow.TheVariants.{Continue, Break}
use Rattle.machine.specs.Held.{State, Turn, Lender, machine_of, held, stands, lender, seen, turned, takes}
use Rattle.decoder.specs.Run.{left_as, left_by}
use Rattle.decoder.proofs.Turns.{Before, refuses, accepts, goes_after, start_state, start-machine, start-before}

-- before an item, in a run that began with the machine m₀: the run from here is the whole run, and the same memory is lent
pub record Going (message : List ℕ) (m₀ m : Lent) (at : ℕ) : Type 0 where
  pub before : Before message (held m) (stands m at)
  pub lent : lender m ≡ lender m₀
  pub whole : run_from row_values (limits_of (held m₀)) (drop at message) 0 at m.next.0 (machine_of (held m) (stands m at)) ≡ M.run row_values (limits_of (held m₀)) message

-- tables that lie in the same memory have the same limits
same_limits : (m₀ m : Lent) → lender m ≡ lender m₀ → limits_of (held m₀) ≡ limits_of (held m)
same_limits m₀ m e = same-limits (held m₀) (held m) (record {
  rows = ap (λ (l : Lender). l.rows.1) (sym e);
  stack = ap (λ (l : Lender). l.stack.1) (sym e);
  marks = ap (λ (l : Lender). l.marks.1) (sym e);
  registers = ap (λ (l : Lender). l.registers.1) (sym e);
})

pub starts : (message : List ℕ) (m : Lent) → stands m 0 ≡ start_state → m.registers.now ≡ zeroed m.registers.now → Going message m m 0
unfolding M.run
starts message m e registers = record {
  before = rw e (start-before (held m) registers message);
  lent = refl;
  whole = let next : m.next.0 ≡ 0 = ap (λ (s : State). s.next.0) e in rw (e, next, start-machine (held m) registers) refl;
}

-- an item's first byte, as it is looked up
pub here : (message : List ℕ) (i b : ℕ) → (i < length message) × ((d : ℕ) → b ≡ get_or message i d) → drop i message ≡ b ∷ drop (suc i) message
here message i b found = rw (found.1 0, ← add-one) (byte_at message i found.0)

pub no_more : (message : List ℕ) (i : ℕ) → false ≡ ltb i (length message) → length message ≤ i
no_more message i e = ltb-false i (length message) (sym e)

module _ (message : List ℕ) (m₀ m : Lent) (at : ℕ) (going : Going message m₀ m at) where
  -- the slice's end
  pub over : length message ≤ at → (words : List ℕ)
      → left_as (Err (record { refusal = Why.Cut; place = record { 0 = length message } })) words ≡ left_by m₀.rows.now (M.run row_values (limits_of (held m₀)) message)
  unfolding left_as left_by run_from
  over h words =
      let last : at ≡ length message = omega (arith, going.before.inside) in
      rw (← going.whole, drop_of_length-le message h, last) refl

module _ (message : List ℕ) (m₀ m m' : Lent) (at b : ℕ) (going : Going message m₀ m at) (here : drop at message ≡ b ∷ drop (suc at) message) where
  abbrev rest : List ℕ
  rest = drop (at + 1) message

  -- the run, with the limits of the tables as they are
  here-whole : run_from row_values (limits_of (held m)) (drop at message) 0 at m.next.0 (machine_of (held m) (stands m at)) ≡ M.run row_values (limits_of (held m)) message
  here-whole = rw (← same_limits m₀ m going.lent) going.whole

  -- the memory that an answer leaves lent
  lent_on : {x y : Turn} → seen x m' ≡ seen y m → lender m' ≡ lender m₀
  lent_on e = ap (λ (p : Turn × Lender × Option State). p.1) e ∙ going.lent

  pub goes_on : (end : Offset) → turned (Ok (Continue end)) m' ≡ takes m at rest (lex b rest) → Going message m₀ m' end.0 × (at < end.0)
  unfolding turned
  goes_on end e =
      let turn = ap (λ (p : Turn × Lender × Option State). p.0) e in
      let a = goes_after message (held m) (held m') (stands m at) b going.before here (stands m' end.0) (rw add-one at turn) in
      (record { before = a.before'; lent = lent_on e; whole = rw (same_limits m₀ m going.lent) (sym a.same-run ∙ here-whole) }, a.later)

  -- the row table at the end: what was lent for it is what the machine leaves in it
  pub done : (words : List ℕ) → (m₀.rows.ghost_name ≡ m'.rows.ghost_name → words ≡ m'.rows.now) → (root : RowNumber) → turned (Ok (Break root)) m' ≡ takes m at rest (lex b rest)
      → left_as (Ok (record { consumed = at + 1; root = root; used = m'.next.0 })) words ≡ left_by m₀.rows.now (M.run row_values (limits_of (held m₀)) message)
  unfolding left_as left_by machine_of rows_in turned
  done words kept root e =
      let turn = ap (λ (p : Turn × Lender × Option State). p.0) e in
      let a = accepts message (held m) (held m') (stands m at) b going.before here root.0 m'.next.0 (rw add-one at turn) in
      let left : cleared_from (m.next.0 * row_words) m'.rows.now ≡ rows_in m₀.rows.now (machine_of (held m) (stands m at)).memory =
      rw (a.2, cleared-rows m.rows.now m.next.0 m.used, ap (λ (l : Lender). l.rows.1) going.lent) refl in
      let names : m₀.rows.ghost_name ≡ m'.rows.ghost_name = sym (ap (λ (l : Lender). l.rows.0) (lent_on e)) in
      rw (same_limits m₀ m going.lent, ← here-whole, a.0, kept names, a.1, left, add-one) refl

  pub stopped : (x : Refused) → turned (Err x) m' ≡ takes m at rest (lex b rest) → (words : List ℕ)
      → left_as (Err x) words ≡ left_by m₀.rows.now (M.run row_values (limits_of (held m₀)) message)
  unfolding left_as left_by turned
  stopped x e words =
      let turn = ap (λ (p : Turn × Lender × Option State). p.0) e in
      rw (same_limits m₀ m going.lent, ← here-whole, refuses message (held m) (held m') (stands m at) b going.before here x (rw add-one at turn)) refl
