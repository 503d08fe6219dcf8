-- `text::stack::Stack::pop` meets its contract.
use native.Mathlib.Omega.{arith}
use Rattle.table.specs.Words.{last_first}
use Rattle.text.proofs.Frames.{top-first}
use Rattle.text.proofs.stack.Stack.pop.Goals as goal

pub returns-then-self-eq0-clause-popped : goal.returns-then-self-eq0-clause-popped
unfolding last_first
returns-then-self-eq0-clause-popped c = rw c.if-self-eq0.true

pub returns-clause-popped : goal.returns-clause-popped
returns-clause-popped c = top-first _ _ (omega arith)
