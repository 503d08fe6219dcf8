-- `comparison::search::class_of` meets its contract: the row is looked for on its own side, or first on the other and then on its own.
use native.Mathlib.Omega.{arith}
use Rattle.comparison.specs.Sides.{side_of}
use Rattle.comparison.proofs.Searches.{few, in_own_side, in_other_side, in_second_side}
use Rattle.comparison.proofs.search.class_of.Goals as goal

pub first_same-requires-clause-count_in_bounds : goal.first_same-requires-clause-count_in_bounds
first_same-requires-clause-count_in_bounds c =
    let few-a = few (side_of c.args.a) c.args.a.sound in
    let few-b = few (side_of c.args.b) c.args.b.sound in
    (omega arith, omega arith)

pub returns-then-at-a : goal.returns-then-at-a
returns-then-at-a c =
    in_own_side (side_of c.args.a) (side_of c.args.b) _ _ c.requires.classes_value c.args.a.sound c.args.b.sound c.if-at-a.true _ (rw c.row_at.ensures at c.first_same.ensures)

pub first_same-found-requires-clause-count_in_bounds : goal.first_same-found-requires-clause-count_in_bounds
first_same-found-requires-clause-count_in_bounds c =
    let few-a = few (side_of c.args.a) c.args.a.sound in
    let few-b = few (side_of c.args.b) c.args.b.sound in
    (omega arith, omega arith)

pub returns-then-found-a : goal.returns-then-found-a
returns-then-found-a c =
    in_other_side (side_of c.args.a) (side_of c.args.b) _ _ c.requires.classes_value c.args.a.sound c.args.b.sound _ (omega arith) (omega arith)
    _ (rw c.row_at-row.ensures at c.first_same-found.ensures) c.if-found-a.true

pub first_same-requires-2-clause-count_in_bounds : goal.first_same-requires-2-clause-count_in_bounds
first_same-requires-2-clause-count_in_bounds c =
    let few-a = few (side_of c.args.a) c.args.a.sound in
    let few-b = few (side_of c.args.b) c.args.b.sound in
    (omega arith, omega arith)

pub returns : goal.returns
returns c =
    in_second_side (side_of c.args.a) (side_of c.args.b) _ _ c.requires.classes_value c.args.a.sound c.args.b.sound _ (omega arith) (omega arith)
    _ (rw c.row_at-row.ensures at c.first_same-found.ensures) c.if-found-a.false _ (rw c.row_at-row.ensures at c.first_same-2.ensures)
