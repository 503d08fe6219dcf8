-- `literals::number::begun_by` meets its contract.
use mathlib.Core.Path.{refl}
use borrow.Author.Tests.{eq-eqb, ne_eqb}
use Rattle.literals.specs.Readers.{begun_by}
use Rattle.literals.proofs.number.begun_by.Goals as goal

pub returns-then-b-eq-MINUS : goal.returns-then-b-eq-MINUS
unfolding begun_by
returns-then-b-eq-MINUS c = rw (eq-eqb _ _ c.if-b-eq-MINUS.true) refl

pub overflow_sub-result : goal.overflow_sub-result
overflow_sub-result c = c.requires c.if-b-eq-MINUS.false

pub returns : goal.returns
unfolding begun_by
returns c = rw (ne_eqb _ _ c.if-b-eq-MINUS.false) refl
