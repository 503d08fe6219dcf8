-- `literals::binary::binary_item` meets its contract: nothing to pop, no count, or the bytes that it counts.
use mathlib.Core.Path.{sym, ◌∙◌}
use native.Mathlib.Omega.{arith}
use Rattle.machine.proofs.Lent.{ready, as-lent, refused, passed_up}
use Rattle.literals.proofs.Binaries.{binary-few, binary-no_count, binary_of}
use Rattle.literals.proofs.binary.binary_item.Goals as goal

pub returns-in_err-need_values : goal.returns-in_err-need_values
returns-in_err-need_values c = passed_up c.args.machine.now _ _ c.from_residual.ensures.1 (refused c.args.machine.now c.in_err-need_values.ensures.1 (binary-few _ _ _ _ _ _ (omega (arith, c.in_err-need_values.ensures.0))))

pub returns-in-Ok : goal.returns-in-Ok
returns-in-Ok c =
    c.binary_bytes.ensures
    ∙ sym (as-lent c.args.machine.now (binary_of _ _ _ _ _ _ (ready c.args.machine.now _) (omega (arith, c.in_ok-need_values.ensures)) _ c.top-v.ensures _ (rw c.row.ensures at (sym c.count_of.ensures ∙ c.in-Ok.is))))

pub returns-in-Err : goal.returns-in-Err
returns-in-Err c =
    refused c.args.machine.now c.refused_at.ensures
    (binary-no_count _ _ _ _ _ _ (ready c.args.machine.now _) (omega (arith, c.in_ok-need_values.ensures)) _ c.top-v.ensures _ (rw c.row.ensures at (sym c.count_of.ensures ∙ c.in-Err.is)))
