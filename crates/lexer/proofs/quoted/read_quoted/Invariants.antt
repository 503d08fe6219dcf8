-- `lexer::quoted::read_quoted` meets its contract: what is found from a place on is what is found from the first place on.
use Prim.Native.Nat.{◌-◌}
use lib.ListN.{length}
use Rattle.lexer.proofs.Scans as laws
use Rattle.lexer.proofs.quoted.read_quoted.Given as goal

abbrev pub invariant-loop-i : goal.invariant-loop-i
invariant-loop-i l = laws.Looking l.quote l.start l.message l.escaped l.i l.open

abbrev pub decreases-loop-i : goal.decreases-loop-i
decreases-loop-i l = length l.message - l.i
