-- `scan::marks_in_block` meets its contract: while no mark is found, the bytes looked at are plain.
use Rattle.std.proofs.Common.{◌≡◌}
use Rattle.scan.specs.Plain.{plain_end}
use Rattle.scan.proofs.marks_in_block.Given as goal

abbrev pub invariant-loop-b : goal.invariant-loop-b
invariant-loop-b l = l.marks ≡ 0 → plain_end l.quote l.block l.b-index ≡ plain_end l.quote l.block 0
