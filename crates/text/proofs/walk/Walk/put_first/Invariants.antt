-- `text::walk::Walk::put_first` meets its contract.
use Rattle.table.specs.Words.{row_of}
use Rattle.text.specs.Way.{Same}
use Rattle.text.proofs.Entering.{Entering}
use Rattle.text.proofs.walk.Walk.put_first.Given as goal

abbrev pub invariant-loop-n : goal.invariant-loop-n
invariant-loop-n l =
    let w = l.initial.self in
    let o = l.initial.output in
    record {
      same : Same w o l.self l.output;
      entering : Entering w.table w.stack.now o.bytes.now l.initial.n.0 w.depth o.at
          l.self.stack.now l.output.bytes.now l.n.0 (row_of l.words) l.self.depth l.output.at;
    }

abbrev pub decreases-loop-n : goal.decreases-loop-n
decreases-loop-n l = l.n.0
