-- `leaves::span::put_by_one` meets its contract: what is left of the bytes, stored into the output as it is, is the bytes stored into the output as it
-- was at first.
use Rattle.leaves.proofs.Spans as laws
use Rattle.leaves.proofs.span.put_by_one.Given as goal

abbrev pub invariant-loop-i : goal.invariant-loop-i
invariant-loop-i l = laws.Copying l.bytes l.at l.initial.output l.output l.i
