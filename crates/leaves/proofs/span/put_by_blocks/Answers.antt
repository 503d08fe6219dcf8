-- `leaves::span::put_by_blocks` meets its contract: after each block what is left of the span, stored into the output as it is, is the span stored into
-- the output as it was at first; and so it is once the last block is stored, over bytes of the span that stand already.
use Rattle.std.proofs.Common.{arith}
use Rattle.leaves.proofs.Spans as laws
use Rattle.leaves.proofs.span.put_by_blocks.Goals as goal
use Rattle.leaves.proofs.span.put_by_blocks.Goals.{else-loop-i-test, then-loop-i-test+else-last-i-gt8}

pub loop-i-preserved : goal.loop-i-preserved
loop-i-preserved c = laws.copies _ _ _ c.loop-i.invariant 8 (omega arith) (rw c.load_block.ensures at c.store_block.ensures)

pub returns : goal.returns
returns c =
    let inv = c.loop-i.invariant in
    let last = rw c.load_block-2.ensures at c.store_block-2.ensures in
    elim c.loop-i-test.branch [
      | else-loop-i-test w ↦ laws.ends-over _ _ _ (rw (← w.output-is) at inv) _ 8 w.loop-i-test.false (omega arith) last
      | then-loop-i-test+else-last-i-gt8 w ↦
          let more = laws.copies _ _ _ inv 8 (omega arith) (rw w.load_block.ensures at w.store_block.ensures) in
          laws.ends-over _ _ _ (rw (← w.output-is) at more) _ 8 (omega arith) (omega arith) last
    ]
