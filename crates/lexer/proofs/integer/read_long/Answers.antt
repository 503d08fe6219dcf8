-- `lexer::integer::read_long` meets its contract: a run of digits, then its sign.
use Rattle.lexer.proofs.Integers.{long-run}
use Rattle.lexer.proofs.integer.read_long.Goals as goal

pub returns : goal.returns
returns c = long-run _ _ _ _ c.read_digits.ensures c.signed.ensures
