-- `operators::white::white_item` meets its contract.
use Rattle.machine.specs.Held.{turned, held, stands}
use Rattle.machine.proofs.Lent.{ready, as-lent}
use Rattle.operators.proofs.Steps.{white}
use Rattle.operators.proofs.white.white_item.Goals as goal

pub returns : goal.returns
unfolding turned
returns c m r = rw c.after.ensures (as-lent m (white (held m) (stands m c.args.start.at.0) (ready m c.args.start.at.0) r))
