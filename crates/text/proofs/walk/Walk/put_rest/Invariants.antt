-- `text::walk::Walk::put_rest` meets its contract.
use Rattle.std.specs.Prelude.{None}
use Rattle.text.specs.Walk.{pending}
use Rattle.text.specs.Way.{frames, GoneOn}
use Rattle.text.proofs.walk.Walk.put_rest.Given as goal

abbrev pub invariant-loop-self : goal.invariant-loop-self
invariant-loop-self l = GoneOn l.initial.self l.initial.output (pending l.initial.self.table (frames l.initial.self)) l.self l.output None

abbrev pub decreases-loop-self : goal.decreases-loop-self
decreases-loop-self l = l.self.depth
