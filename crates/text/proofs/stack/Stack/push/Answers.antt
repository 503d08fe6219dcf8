-- `text::stack::Stack::push` meets its contract.
use native.Mathlib.Numerals.{add-one}
use native.Mathlib.Omega.{arith}
use lib.ListN.{length-set}
use Rattle.table.proofs.Rows.{pushed, length-last_first}
use Rattle.text.proofs.stack.Stack.push.Goals as goal

pub bounds-self-self : goal.bounds-self-self
bounds-self-self c = omega (arith, c.requires, length-last_first c.args.self.now.words.now c.args.self.now.depth)

pub invariant_of-self : goal.invariant_of-self
invariant_of-self c = record {
  within = rw length-set (omega (arith, c.requires, length-last_first c.args.self.now.words.now c.args.self.now.depth));
}

pub returns-clause-pushed : goal.returns-clause-pushed
returns-clause-pushed c = rw add-one (pushed _ _ _ (omega (arith, c.requires, length-last_first c.args.self.now.words.now c.args.self.now.depth)))
