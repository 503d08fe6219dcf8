-- `scan::plain_until` meets its contract: the bytes passed are plain.
use Rattle.std.proofs.Common.{◌≡◌, ◌-◌, length}
use Rattle.scan.specs.Plain.{plain_end}
use Rattle.scan.proofs.plain_until.Given as goal

abbrev pub invariant-loop-i : goal.invariant-loop-i
invariant-loop-i l = plain_end l.quote l.bytes l.i ≡ plain_end l.quote l.bytes l.from

abbrev pub decreases-loop-i : goal.decreases-loop-i
decreases-loop-i l = length l.bytes - l.i
