-- `decoder::run::run` meets its contract: the run from where the loop stands is the whole run.
use Prim.Native.Nat.{◌-◌}
use lib.ListN.{length}
use Rattle.decoder.proofs.Loop.{Going}
use Rattle.decoder.proofs.run.run.Given as goal

abbrev pub invariant-loop-b : goal.invariant-loop-b
invariant-loop-b l = Going l.message l.initial.machine l.machine l.at.0

abbrev pub decreases-loop-b : goal.decreases-loop-b
decreases-loop-b l = length l.message - l.at.0
