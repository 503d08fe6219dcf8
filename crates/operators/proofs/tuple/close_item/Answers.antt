-- `operators::tuple::close_item` meets its contract: no mark, a depth under it, no room in rows or on the stack, or the tuple.
use Prim.Native.Nat.{◌+◌, ◌-◌, ◌<◌}
use mathlib.Core.Path.{refl}
use native.Mathlib.Omega.{arith}
use Rattle.format.specs.Rows.{row_room}
use Rattle.table.specs.Words.{between, tuple_rows}
use Rattle.table.proofs.Tuple.{length-tuple}
use lib.ListN.{length-set}
use Rattle.table.proofs.Cleared.{stored-length}
use Rattle.machine.specs.Held.{turned}
use Rattle.machine.proofs.Limits.{still-fits, still-room, values-pushed}
use Rattle.machine.proofs.Lent.{ready, still-lent, refused}
use Rattle.operators.proofs.Tuples.{close_10, close_17, close_12, close_13, close_goes}
use Rattle.operators.proofs.tuple.close_item.Goals as goal

pub returns-then-machine-eq0 : goal.returns-then-machine-eq0
returns-then-machine-eq0 c r = refused c.args.machine.now c.refused_at.ensures (close_10 _ _ _ _ _ r c.if-machine-eq0.true)

pub returns-then-depth-base : goal.returns-then-depth-base
returns-then-depth-base c r = refused c.args.machine.now c.refused_at-then-depth-base.ensures (close_17 _ _ _ _ _ r _ ((omega (arith, c.if-machine-eq0.false))) c.base-base.ensures.value c.if-depth-base.true)

pub returns-then-row_room-next : goal.returns-then-row_room-next
returns-then-row_room-next c r = refused c.args.machine.now c.refused_at-then-row_room-next.ensures (close_12 _ _ _ _ _ r _ ((omega (arith, c.if-machine-eq0.false))) c.base-base.ensures.value c.if-depth-base.false (rw c.row_room.ensures at c.if-row_room-next.true))

pub returns-then-stack_room-base : goal.returns-then-stack_room-base
returns-then-stack_room-base c r = refused c.args.machine.now c.refused_at-then-stack_room-base.ensures (close_13 _ _ _ _ _ r _ ((omega (arith, c.if-machine-eq0.false))) c.base-base.ensures.value c.if-depth-base.false (rw c.row_room.ensures at c.if-row_room-next.false) (rw c.stack_room.ensures at c.if-stack_room-base.true))

pub overflow_cast-last : goal.overflow_cast-last
unfolding row_room
overflow_cast-last c = omega (arith, (rw c.row_room.ensures at c.if-row_room-next.false))

pub overflow_add-last : goal.overflow_add-last
unfolding row_room
overflow_add-last c = omega (arith, (rw c.row_room.ensures at c.if-row_room-next.false))

pub store_tuple-requires : goal.store_tuple-requires
store_tuple-requires c = omega (arith, c.args.machine.now.deep, (rw c.row_room.ensures at c.if-row_room-next.false))

pub overflow_add-machine : goal.overflow_add-machine
unfolding row_room
overflow_add-machine c = omega (arith, (rw c.row_room.ensures at c.if-row_room-next.false))

pub invariant_of-machine-clause-used : goal.invariant_of-machine-clause-used
invariant_of-machine-clause-used c =
    let m = c.args.machine.now in
    let room : m.next.0 + (m.depth.0 - c.base-base.result.0) < row_room m.rows.now = rw c.row_room.ensures at c.if-row_room-next.false in
    let more = length-tuple m.rows.now m.stack.now c.base-base.result.0 m.depth.0 m.next.0 in
    rw c.store_tuple.ensures (still-fits m.rows.now m.next.0 (tuple_rows m.next.0 (between m.stack.now c.base-base.result.0 m.depth.0)) _ (omega (arith, room, more)) (omega (arith, room)))

pub invariant_of-machine-clause-deep : goal.invariant_of-machine-clause-deep
invariant_of-machine-clause-deep c = still-room c.args.machine.now.stack.now _ _ _ _ (omega (arith, (rw c.stack_room.ensures at c.if-stack_room-base.false)))

pub invariant_of-machine-clause-values : goal.invariant_of-machine-clause-values
invariant_of-machine-clause-values c =
    let m = c.args.machine.now in
    values-pushed m.stack.now c.base-base.result.0 _ m.next.0 _ (omega (arith, (rw c.stack_room.ensures at c.if-stack_room-base.false))) (λ i l. m.values i (omega (arith, c.if-depth-base.false))) (omega arith) (omega arith)

pub invariant_of-machine-clause-stored : goal.invariant_of-machine-clause-stored
invariant_of-machine-clause-stored c x = omega (arith, c.args.machine.now.stored x)

pub returns : goal.returns
unfolding turned
returns c r =
    let m = c.args.machine.now in
    let room : m.next.0 + (m.depth.0 - c.base-base.result.0) < row_room m.rows.now = rw c.row_room.ensures at c.if-row_room-next.false in
    let more = length-tuple m.rows.now m.stack.now c.base-base.result.0 m.depth.0 m.next.0 in
    rw (c.after.ensures, c.store_tuple.ensures)
    (still-lent m _ _ _ _ _ _ _ (stored-length m.rows.now m.next.0 (tuple_rows m.next.0 (between m.stack.now c.base-base.result.0 m.depth.0)) (omega (arith, room, more))) (length-set m.stack.now _ _) refl refl (close_goes _ _ _ _ _ r _ ((omega (arith, c.if-machine-eq0.false))) c.base-base.ensures.value c.if-depth-base.false (ready m c.args.start.at.0) (rw c.row_room.ensures at c.if-row_room-next.false) (rw c.stack_room.ensures at c.if-stack_room-base.false) _ refl))
