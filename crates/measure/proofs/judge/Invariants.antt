-- `measure::judge` meets its contract: the rows passed are judged, and measured where all rows are sound.
use lib.ListN.{length}
use Rattle.measure.proofs.Lengths as laws
use Rattle.measure.proofs.judge.Given as goal

abbrev pub invariant-loop-i : goal.invariant-loop-i
invariant-loop-i l = laws.Measuring l.message l.rows (length l.initial.lengths) l.initial.lengths l.lengths l.i
