-- `leaves::span::put_by_blocks` meets its contract: after each block what is left of the bytes, stored into the output as it is, is the bytes stored into
-- the output as it was at first; and so it is once the last block is stored, over bytes that stand already.
use Prim.Native.Nat.{◌-◌}
use Rattle.leaves.proofs.Spans as laws
use Rattle.leaves.proofs.span.put_by_blocks.Given as goal

abbrev pub invariant-loop-i : goal.invariant-loop-i
invariant-loop-i l = laws.Copying l.bytes l.at l.initial.output l.output l.i

abbrev pub decreases-loop-i : goal.decreases-loop-i
decreases-loop-i l = l.last - l.i
