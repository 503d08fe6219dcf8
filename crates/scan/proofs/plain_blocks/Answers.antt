-- `scan::plain_blocks` meets its contract: the blocks passed are plain.
use Rattle.std.proofs.Common.{◌≡◌, ◌+◌, ◌-◌, ◌∙◌, arith}
use Rattle.scan.proofs.Runs as laws
use Rattle.scan.proofs.plain_blocks.Goals as goal

pub loop-i-preserved : goal.loop-i-preserved
loop-i-preserved c =
    let size : c.loop-i.i + 48 - c.loop-i.i ≡ 48 = omega arith in
    let plain = rw size at (c.marks_in_block.ensures (omega arith)) in
    (omega arith, omega arith, laws.block _ _ _ 48 (omega arith) plain ∙ c.loop-i.invariant.2)
