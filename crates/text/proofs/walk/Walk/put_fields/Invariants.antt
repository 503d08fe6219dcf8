-- `text::walk::Walk::put_fields` meets its contract.
use mathlib.Core.Path.{◌≡◌}
use Rattle.table.specs.Words.{row_of}
use Rattle.text.specs.Way.{Same}
use Rattle.text.proofs.Fields.{Fielding}
use Rattle.text.proofs.walk.Walk.put_fields.Given as goal

abbrev pub invariant-loop-words : goal.invariant-loop-words
invariant-loop-words l =
    let w = l.initial.self in
    let o = l.initial.output in
    record {
      same : Same w o l.self l.output;
      same_depth : l.self.depth ≡ w.depth;
      fielding : Fielding w.table w.stack.now o.bytes.now w.depth l.initial.n.0 o.at l.self.stack.now l.output.bytes.now l.n.0 (row_of l.words) l.output.at;
    }

abbrev pub decreases-loop-words : goal.decreases-loop-words
decreases-loop-words l = l.n.0
