-- `literals::number::integer_item` meets its contract: a value makes a row, and anything else is refused.
use mathlib.Core.Path.{sym, ◌∙◌}
use native.Mathlib.Nat.{sub-zero}
use native.Mathlib.Omega.{arith}
use Rattle.machine.specs.Held.{held, turned}
use Rattle.machine.proofs.Lent.{as-lent}
use Rattle.machine.proofs.Passes.{rest-ends}
use Rattle.literals.proofs.Integers as laws
use Rattle.literals.proofs.number.integer_item.Goals as goal

pub returns-in-Err : goal.returns-in-Err
unfolding turned
returns-in-Err c =
    let m = c.args.machine.now in
    rw c.no_integer.ensures
    (as-lent m (laws.no_integer (held m) _ _ _ _ (c.end.ensures ∙ rest-ends _ _ c.args.start.inside) _ (rw (c.begun_by.ensures, c.after.ensures) at (sym c.read_integer-read.ensures ∙ c.in-Err.is))))

pub returns : goal.returns
returns c =
    let m = c.args.machine.now in
    let i = laws.integer _ _ _ _ (rw (c.begun_by.ensures, c.after.ensures) at (sym c.read_integer-read.ensures ∙ c.in-Ok.is)) in
    c.push_value.ensures.turn i.bytes (omega (arith, i.place)) ∙ rw sub-zero (as-lent m (laws.integer-made (held m) _ _ _ i))
