-- `operators::tuple::open_item` meets its contract: no room for a mark, or the depth noted.
use mathlib.Core.Path.{refl}
use lib.ListN.{length-set}
use Rattle.machine.specs.Held.{turned}
use Rattle.machine.proofs.Lent.{ready, still-lent, refused}
use Rattle.operators.proofs.Steps.{open_14, open_goes}
use Rattle.operators.proofs.tuple.open_item.Goals as goal

pub returns-then-mark_room-i : goal.returns-then-mark_room-i
returns-then-mark_room-i c r = refused c.args.machine.now c.refused_at.ensures (open_14 _ _ _ _ _ r (ready c.args.machine.now _) (rw c.mark_room.ensures at c.if-mark_room-i.true))

pub returns : goal.returns
unfolding turned
returns c r = rw c.after.ensures (still-lent c.args.machine.now _ _ _ _ _ _ _ refl refl (length-set c.args.machine.now.marks.now _ _) refl (open_goes _ _ _ _ _ r (ready c.args.machine.now _) (rw c.mark_room.ensures at c.if-mark_room-i.false)))
