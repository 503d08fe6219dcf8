-- `table::clear_from` meets its contract: the words from there on are filled with zeros, or there are none.
use native.Mathlib.Omega.{arith}
use Rattle.format.specs.Answer.{zeroed}
use Rattle.table.proofs.Cleared.{cleared-part, cleared-none}
use Rattle.table.proofs.clear_from.Goals as goal

pub returns-then-from-words : goal.returns-then-from-words
unfolding zeroed
returns-then-from-words c = cleared-part _ _ (omega arith) _ (c.fill.ensures.after (λ y e. e))

pub returns-else-from-words : goal.returns-else-from-words
returns-else-from-words c = cleared-none _ _ c.if-from-words.false
