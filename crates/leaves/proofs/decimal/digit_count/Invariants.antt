-- `leaves::decimal::digit_count` meets its contract: the digits counted and those of what is left are all of them and one more, since one is counted at
-- first. At the end one or two are left.
use Prim.Native.Nat.{◌+◌, ◌≤◌}
use mathlib.Core.Path.{◌≡◌}
use mathlib.Core.List.{[]}
use lib.ListN.{length}
use Rattle.format.specs.Text.{natural_on}
use Rattle.leaves.proofs.decimal.digit_count.Given as goal

abbrev pub invariant-loop-rest : goal.invariant-loop-rest
invariant-loop-rest l = (l.count + length (natural_on l.rest []) ≡ length (natural_on l.n []) + 1) × (length (natural_on l.n []) ≤ 20)

abbrev pub decreases-loop-rest : goal.decreases-loop-rest
decreases-loop-rest l = l.rest
