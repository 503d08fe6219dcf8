-- `lexer::integer::read_short` meets its contract: the integer from a place on is the integer from the first place on.
use Prim.Native.Nat.{◌-◌, ◌≤◌}
use mathlib.Core.Bool.{false}
use mathlib.Core.Path.{◌≡◌}
use lib.ListN.{length, drop}
use Rattle.lexer.specs.declared.integer.Begun.TheVariants as Begun
use Rattle.lexer.specs.Integer.{integer_from}
use Rattle.lexer.specs.Digits.{small}
use Rattle.lexer.proofs.integer.read_short.Given as goal

abbrev pub invariant-loop-i : goal.invariant-loop-i
invariant-loop-i l = (l.value ≤ small) × (integer_from (Begun.Digits false l.value) l.i (drop l.i l.message) ≡ integer_from (Begun.Digits false l.v) l.initial.i (drop l.initial.i l.message))

abbrev pub decreases-loop-i : goal.decreases-loop-i
decreases-loop-i l = length l.message - l.i
