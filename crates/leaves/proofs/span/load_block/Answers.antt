-- `leaves::span::load_block` meets its contract: what is left of the block's span, stored into the block as it is, is the span stored into the zeros
-- that it holds at first.
use Rattle.std.proofs.Common.{arith}
use Rattle.leaves.proofs.Spans as laws
use Rattle.leaves.proofs.span.load_block.Goals as goal

pub loop-i-preserved : goal.loop-i-preserved
loop-i-preserved c = laws.copies_byte _ _ _ c.requires _ _ c.loop-i.invariant (omega arith) c.loop-i-test.true
