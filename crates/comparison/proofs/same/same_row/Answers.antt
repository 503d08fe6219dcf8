-- `comparison::same::same_row` meets its contract: integers with other low halves are not the same.
use native.Mathlib.Omega.{arith}
use Rattle.comparison.specs.Sides.{placed_of}
use Rattle.comparison.proofs.Tested.{other-low}
use Rattle.comparison.proofs.same.same_row.Goals as goal

pub returns-then-x-y : goal.returns-then-x-y
returns-then-x-y c =
    other-low c.args.classes.now (placed_of c.args.x) (placed_of c.args.y) c.if-x-y.true (omega arith) (omega arith) (omega arith) (omega arith) c.if-k-y.false c.if-k.true
