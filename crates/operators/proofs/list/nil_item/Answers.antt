-- `operators::list::nil_item` meets its contract.
use mathlib.Core.Path.{◌∙◌}
use native.Mathlib.Nat.{sub-zero}
use native.Mathlib.Omega.{arith}
use Rattle.machine.proofs.Lent.{as-lent}
use Rattle.operators.proofs.Lists.{nil-made}
use Rattle.operators.proofs.list.nil_item.Goals as goal

pub returns : goal.returns
returns c r = c.push_value.ensures.turn 0 (omega (arith, c.after.ensures)) ∙ rw sub-zero (as-lent c.args.machine.now (nil-made _ _ r))
