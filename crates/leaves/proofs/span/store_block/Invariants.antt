-- `leaves::span::store_block` meets its contract: what is left of the block, stored into the output as it is, is the block stored into the output as
-- it was at first.
use Rattle.leaves.proofs.Spans as laws
use Rattle.leaves.proofs.span.store_block.Given as goal

abbrev pub invariant-loop-i : goal.invariant-loop-i
invariant-loop-i l = laws.Copying l.block l.at l.initial.output l.output l.i
