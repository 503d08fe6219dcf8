-- `lexer::integer::read_digits` meets its contract: what the digits come to from a place on is what they come to from the first
-- place on.
use Rattle.lexer.proofs.Runs as laws
use Rattle.lexer.proofs.integer.read_digits.Given as goal

abbrev pub invariant-loop-i : goal.invariant-loop-i
invariant-loop-i l = laws.Reading l.message l.initial.i l.v l.i l.value
