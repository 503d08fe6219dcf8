-- `comparison::same::same_cell` meets its contract: its two tests are the definition's.
use Rattle.comparison.specs.Same.{same_cell}
use Rattle.comparison.proofs.Tested.{both-pass, first_fails}
use Rattle.comparison.proofs.same.same_cell.Goals as goal

pub returns-then-same_class : goal.returns-then-same_class
unfolding same_cell
returns-then-same_class c = both-pass c.same_class.ensures c.if-same_class.true c.same_class-then-same_class.ensures

pub returns-else-same_class : goal.returns-else-same_class
unfolding same_cell
returns-else-same_class c = first_fails _ c.same_class.ensures c.if-same_class.false
