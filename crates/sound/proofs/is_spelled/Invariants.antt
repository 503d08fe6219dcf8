-- `sound::is_spelled` meets its contract: the bytes from a place on are judged as all of them are.
use Prim.Native.Nat.{◌-◌}
use mathlib.Core.Path.{◌≡◌}
use mathlib.Core.Bool.{false}
use lib.ListN.{length}
use Rattle.format.specs.Sound.{spelled}
use Rattle.sound.proofs.Spelled as laws
use Rattle.sound.proofs.is_spelled.Given as goal

abbrev pub invariant-loop-i : goal.invariant-loop-i
invariant-loop-i l = laws.from l.text l.quote l.i ≡ spelled l.quote false l.text

abbrev pub decreases-loop-i : goal.decreases-loop-i
decreases-loop-i l = length l.text - l.i
