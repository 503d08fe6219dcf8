-- `lexer::quoted::read_name` meets its contract: the quote that ends the first plain bytes closes the text, and anything else is read again from its start.
use mathlib.Core.Path.{refl}
use native.Mathlib.Omega.{arith}
use Rattle.scan.proofs.Runs.{not-before}
use Rattle.lexer.proofs.Scans as laws
use Rattle.lexer.proofs.quoted.read_name.Goals as goal

pub overflow_sub-count : goal.overflow_sub-count
overflow_sub-count c = not-before _ _ _ c.plain_end_by_blocks-p.ensures

pub returns-then-message-p : goal.returns-then-message-p
returns-then-message-p c = laws.run-closes _ _ _ (laws.begins _ _ _ _) refl (omega arith) (omega arith) c.plain_end_by_blocks-p.ensures c.if-p-end.true c.if-message-p.true
