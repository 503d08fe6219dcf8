-- `machine::state::Machine::push_value` meets its contract: no room in rows, none on the stack, or the row and its number stored.
use native.Mathlib.Omega.{arith}
use Prim.Native.Nat.{◌<◌}
use mathlib.Core.Path.{refl}
use lib.ListN.{length-set}
use mathlib.Core.List.{[], ◌∷◌}
use Rattle.format.specs.Rows.{row_room}
use Rattle.table.specs.Words.{row_of}
use Rattle.table.proofs.Cleared.{stored-length}
use Rattle.machine.specs.Held.{turned}
use Rattle.machine.proofs.Limits.{made_12, made_13, made-goes, still-fits, still-room, values-pushed}
use Rattle.machine.proofs.Lent.{ready, still-lent, refused}
use Rattle.machine.proofs.state.Machine.push_value.Goals as goal

pub returns-then-row_room-next-clause-turn : goal.returns-then-row_room-next-clause-turn
returns-then-row_room-next-clause-turn c k e = refused c.args.self.now c.refused_at.ensures (made_12 _ _ _ _ _ _ k _ (rw c.row_room.ensures at c.if-row_room-next.true))

pub returns-then-stack_room-i-clause-turn : goal.returns-then-stack_room-i-clause-turn
returns-then-stack_room-i-clause-turn c k e =
    refused c.args.self.now c.refused_at-then-stack_room-i.ensures
    (rw (← c.saturating_sub-i.ensures) (made_13 _ _ _ _ _ _ k _ (rw c.row_room.ensures at c.if-row_room-next.false) (rw c.stack_room.ensures at c.if-stack_room-i.true)))

pub overflow_add-self : goal.overflow_add-self
unfolding row_room
overflow_add-self c = omega (arith, (rw c.row_room.ensures at c.if-row_room-next.false))

pub invariant_of-self-clause-used : goal.invariant_of-self-clause-used
invariant_of-self-clause-used c =
    let room : c.args.self.now.next.0 < row_room c.args.self.now.rows.now = rw c.row_room.ensures at c.if-row_room-next.false in
    rw c.store_row.ensures (still-fits _ c.args.self.now.next.0 (row_of c.args.words ∷ []) _ (omega (arith, room)) c.args.self.now.used)

pub invariant_of-self-2-clause-used : goal.invariant_of-self-2-clause-used
invariant_of-self-2-clause-used c =
    let room : c.args.self.now.next.0 < row_room c.args.self.now.rows.now = rw c.row_room.ensures at c.if-row_room-next.false in
    rw c.store_row.ensures (still-fits _ c.args.self.now.next.0 (row_of c.args.words ∷ []) _ (omega (arith, room)) (omega (arith, room)))

pub invariant_of-self-2-clause-deep : goal.invariant_of-self-2-clause-deep
invariant_of-self-2-clause-deep c = still-room c.args.self.now.stack.now _ _ _ _ (omega (arith, (rw c.stack_room.ensures at c.if-stack_room-i.false)))

pub invariant_of-self-2-clause-values : goal.invariant_of-self-2-clause-values
invariant_of-self-2-clause-values c = values-pushed _ _ _ _ _ (omega (arith, (rw c.stack_room.ensures at c.if-stack_room-i.false))) (λ i l. c.args.self.now.values i (omega (arith, c.saturating_sub-i.ensures))) (omega arith) (omega arith)

pub invariant_of-self-2-clause-stored : goal.invariant_of-self-2-clause-stored
invariant_of-self-2-clause-stored c x = omega (arith, c.args.self.now.stored x)

pub returns-clause-turn : goal.returns-clause-turn
unfolding turned
returns-clause-turn c k e =
    let m = c.args.self.now in
    let room : m.next.0 < row_room m.rows.now = rw c.row_room.ensures at c.if-row_room-next.false in
    rw (c.store_row.ensures, ← c.saturating_sub-i.ensures)
    (still-lent m _ _ _ _ _ _ _ (stored-length m.rows.now m.next.0 (row_of c.args.words ∷ []) (omega (arith, room))) (length-set m.stack.now _ _) refl refl (made-goes _ _ _ _ _ _ k _ (ready m c.args.place.0) (rw c.row_room.ensures at c.if-row_room-next.false) (rw c.stack_room.ensures at c.if-stack_room-i.false) _ e))
