-- `text::walk::Walk::put_all` meets its contract.
use Prim.Native.Nat.{◌-◌}
use mathlib.Core.Path.{◌≡◌}
use lib.ListN.{length}
use Rattle.std.specs.Prelude.{None}
use Rattle.text.specs.Rows.{root_text}
use Rattle.text.specs.Way.{GoneOn}
use Rattle.text.proofs.walk.Walk.put_all.Given as goal

abbrev pub invariant-loop-next : goal.invariant-loop-next
invariant-loop-next l = record {
  gone_on : GoneOn l.initial.self l.initial.output (root_text l.initial.self.table) l.self l.output l.next;
  whole : l.next ≡ None → l.self.depth ≡ 0;
}

abbrev pub decreases-loop-next : goal.decreases-loop-next
decreases-loop-next l = length l.initial.output.bytes.now - l.output.at
