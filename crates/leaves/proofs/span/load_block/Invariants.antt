-- `leaves::span::load_block` meets its contract: what is left of the block's span, stored into the block as it is, is the span stored into the zeros
-- that it holds at first.
use Rattle.format.specs.Rows.{span_of}
use Rattle.leaves.proofs.Spans as laws
use Rattle.leaves.proofs.span.load_block.Given as goal

abbrev pub invariant-loop-i : goal.invariant-loop-i
invariant-loop-i l = laws.Copying (span_of l.bytes l.from 8) 0 l.initial.block l.block l.i
