-- `comparison::search::row_at` meets its contract: the spans of a sound side's rows lie in its message.
use native.Mathlib.Omega.{arith}
use Rattle.comparison.specs.Sides.{side_of}
use Rattle.comparison.proofs.Tested as tested
use Rattle.comparison.proofs.Searches.{read-inside}
use Rattle.comparison.proofs.search.row_at.Goals as goal

pub read_row-requires : goal.read_row-requires
read_row-requires c = omega (arith, c.requires, c.args.s.sound.count)

pub invariant_of-result : goal.invariant_of-result
invariant_of-result c =
    let s = c.args.s in
    record { inside = tested.read-inside s.message.now c.args.base c.read_row.ensures (read-inside (side_of s) s.sound c.args.base c.args.j c.requires) }
