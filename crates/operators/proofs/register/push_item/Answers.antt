-- `operators::register::push_item` meets its contract: an empty register, no room on the stack, or what the register holds pushed.
use mathlib.Core.Path.{refl}
use lib.ListN.{length-set}
use Rattle.machine.specs.Held.{turned}
use Rattle.machine.proofs.Lent.{ready, still-lent, refused}
use Rattle.operators.proofs.Steps.{push_9, push_13, push_goes}
use Rattle.operators.proofs.register.push_item.Goals as goal

pub returns-then-held-eq0 : goal.returns-then-held-eq0
returns-then-held-eq0 c r = refused c.args.machine.now c.refused_at.ensures (push_9 _ _ _ _ _ r _ _ refl c.if-held-eq0.true)

pub returns-then-stack_room-i : goal.returns-then-stack_room-i
returns-then-stack_room-i c r = refused c.args.machine.now c.refused_at-then-stack_room-i.ensures (push_13 _ _ _ _ _ r _ _ refl (ready c.args.machine.now _) c.if-held-eq0.false (rw c.stack_room.ensures at c.if-stack_room-i.true))

pub returns : goal.returns
unfolding turned
returns c r = rw c.after.ensures (still-lent c.args.machine.now _ _ _ _ _ _ _ refl (length-set c.args.machine.now.stack.now _ _) refl refl (push_goes _ _ _ _ _ r _ _ refl (ready c.args.machine.now _) c.if-held-eq0.false (rw c.stack_room.ensures at c.if-stack_room-i.false)))
