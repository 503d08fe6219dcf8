-- What is known of the machine in its tables, and answers of items with the memory that is lent.
use Prim.Native.Nat.{ℕ}
use mathlib.Core.Path.{◌≡◌, refl, ap}
use mathlib.Core.List.{List}
use lib.ListN.{length}
use Rattle.std.proofs.Math.Option.{Option}
use Rattle.format.specs.Answer.{Tables}
use Rattle.std.specs.Prelude.{Result, Ok, Err, IsErrAnd}
use Rattle.std.specs.declared.ops.ControlFlow.{ControlFlow}
use Rattle.format.specs.Number.{number_of}
use Rattle.format.specs.declared.Offset.{Offset}
use Rattle.format.specs.declared.Row.{Row as RowNumber}
use Rattle.format.specs.declared.refusal.Refusal.{Refusal}
use Rattle.format.specs.declared.refusal.Refused.{Refused}
use Rattle.machine.specs.declared.state.Machine.{Machine as Lent}
use Rattle.machine.specs.Held.{Ready, State, Turn, Lender, stops, held, stands, going, still, seen, turned}
use Rattle.machine.proofs.Limits.{refusal}

-- what the machine keeps is what holds before an item at any place
pub ready : (m : Lent) (at : ℕ) → Ready (held m) (stands m at)
ready m at = record { used = m.used; depth = m.deep; noted = m.marked; registers = m.every_byte; values = m.values }

module _ (m : Lent) where
  -- an answer, whoever lends the tables
  pub as-lent : {x y : Turn} → x ≡ y → seen x m ≡ seen y m
  as-lent e = ap (λ x. seen x m) e

  -- and where the machine goes on, with other words stored in the tables, as many as before
  module _ (rows stack marks registers : List ℕ) (s' s : State) (t : Tables) where
    pub still-lent : length rows ≡ length m.rows.now → length stack ≡ length m.stack.now → length marks ≡ length m.marks.now → length registers ≡ length m.registers.now
        → {y : Turn} → going s t ≡ y → ◌≡◌ {A = Turn × Lender × Option State}
        (going s t, record { rows = (m.rows.ghost_name, length rows); stack = (m.stack.ghost_name, length stack); marks = (m.marks.ghost_name, length marks); registers = (m.registers.ghost_name, length registers) }, still (going s t) s')
        (seen y m)
    unfolding going still
    still-lent a b c d e = rw (a, b, c, d, ← e) refl

  -- a refusal, as the code answers it
  pub refused : {x : Turn} {k : Refusal} {p : Offset} {r : Refused} → r ≡ record { refusal = k; place = p } → x ≡ stops (number_of k) p.0 (held m) → turned (Err r) m ≡ seen x m
  unfolding turned
  refused f e = as-lent (refusal f e)

  -- one that `?` passes up
  pub passed_up : {x : Turn × Lender × Option State} (r : Result (ControlFlow RowNumber Offset) Refused) (e : Refused) → IsErrAnd r (λ y. y ≡ e) → turned (Err e) m ≡ x → turned r m ≡ x
  passed_up (Ok y) e h f = absurd h
  passed_up (Err y) e h f = rw h f
