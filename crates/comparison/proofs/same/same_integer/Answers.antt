-- `comparison::same::same_integer` meets its contract: two integers are the same where both halves are.
use mathlib.Core.Path.{refl, ◌∙◌}
use native.Mathlib.Omega.{arith}
use borrow.Author.Tests.{eq-eqb, ne_eqb}
use Rattle.table.specs.Words.{row_of}
use Rattle.comparison.proofs.Integers.{same-halves}
use Rattle.comparison.proofs.Tested.{both-pass, first_fails}
use Rattle.comparison.proofs.same.same_integer.Goals as goal

pub returns-then-x-y : goal.returns-then-x-y
returns-then-x-y c =
    let at = c.args in
    both-pass refl (eq-eqb _ _ c.if-x-y.true) refl ∙ same-halves (row_of at.x) (row_of at.y) (omega arith) (omega arith) (omega arith) (omega arith)

pub returns-else-x-y : goal.returns-else-x-y
returns-else-x-y c =
    let at = c.args in
    first_fails _ refl (ne_eqb _ _ c.if-x-y.false) ∙ same-halves (row_of at.x) (row_of at.y) (omega arith) (omega arith) (omega arith) (omega arith)
