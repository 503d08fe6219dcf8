-- `operators::end::end_item` meets its contract: a mark is noted, the depth is not 1, or the one value.
use Rattle.machine.specs.Held.{turned}
use Rattle.machine.proofs.Lent.{as-lent, refused}
use Rattle.operators.proofs.Steps.{end_10, end_11, end-done}
use Rattle.operators.proofs.end.end_item.Goals as goal

pub returns-then-machine-ne0 : goal.returns-then-machine-ne0
returns-then-machine-ne0 c r = refused c.args.machine.now c.refused_at.ensures (end_10 _ _ _ _ _ r c.if-machine-ne0.true)

pub returns-then-machine-ne1 : goal.returns-then-machine-ne1
returns-then-machine-ne1 c r = refused c.args.machine.now c.refused_at-then-machine-ne1.ensures (end_11 _ _ _ _ _ r c.if-machine-ne0.false c.if-machine-ne1.true)

pub returns : goal.returns
unfolding turned
returns c r = as-lent c.args.machine.now (end-done _ _ _ _ _ r c.if-machine-ne0.false c.if-machine-ne1.false _ c.top.ensures)
