-- `scan::plain_blocks` meets its contract: the blocks passed are plain.
use Rattle.std.proofs.Common.{◌≡◌, ◌-◌, ◌≤◌, length}
use Rattle.scan.specs.Plain.{plain_end}
use Rattle.scan.proofs.plain_blocks.Given as goal

abbrev pub invariant-loop-i : goal.invariant-loop-i
invariant-loop-i l = (l.from ≤ l.i) × (l.i ≤ length l.bytes) × (plain_end l.quote l.bytes l.i ≡ plain_end l.quote l.bytes l.from)

abbrev pub decreases-loop-i : goal.decreases-loop-i
decreases-loop-i l = length l.bytes - l.i
