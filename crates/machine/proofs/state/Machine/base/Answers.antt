-- `machine::state::Machine::base` meets its contract.
use Rattle.machine.proofs.Pops.{base-none, base-last}
use Rattle.machine.proofs.state.Machine.base.Goals as goal

pub returns-then-self-eq0-clause-value : goal.returns-then-self-eq0-clause-value
returns-then-self-eq0-clause-value c = base-none _ _ c.if-self-eq0.true

pub returns-clause-value : goal.returns-clause-value
returns-clause-value c = base-last _ _ c.if-self-eq0.false
