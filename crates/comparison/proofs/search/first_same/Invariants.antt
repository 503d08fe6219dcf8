-- `comparison::search::first_same` meets its contract: none of the rows passed leads, and the one answered does.
use Rattle.comparison.specs.Sides.{placed_of}
use Rattle.comparison.proofs.Tested as laws
use Rattle.comparison.proofs.search.first_same.Given as goal

abbrev pub invariant-loop-i : goal.invariant-loop-i
invariant-loop-i l = laws.NoneBefore l.classes l.x.message.now l.x.rows.now l.base (placed_of l.y) l.i
