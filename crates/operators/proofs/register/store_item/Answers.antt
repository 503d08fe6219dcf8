-- `operators::register::store_item` meets its contract: a register takes a value above the base, and anything else is refused.
use lib.ListN.{length-set}
use mathlib.Core.Path.{refl, sym, ◌∙◌}
use native.Mathlib.Omega.{arith}
use Prim.Native.Nat.{◌-◌}
use Rattle.format.specs.Rows.{row_room}
use Rattle.machine.specs.Held.{turned}
use Rattle.machine.proofs.Lent.{ready, still-lent, refused, passed_up}
use Rattle.machine.proofs.Passes.{rest-ends}
use Rattle.operators.proofs.Registers as laws
use Rattle.operators.proofs.register.store_item.Goals as goal

pub returns-in-Err-Stray : goal.returns-in-Err-Stray
returns-in-Err-Stray c = refused c.args.machine.now (rw c.in-Err-Stray.p-is at c.refused_at.ensures) (laws.store-stray _ _ _ _ _ _ _ (rw (c.in-Err-Stray.field-0-is, c.after.ensures) at (sym c.read_register.ensures ∙ c.in-Err-Stray.is)))

pub returns-in-Err-Ended : goal.returns-in-Err-Ended
returns-in-Err-Ended c = refused c.args.machine.now c.refused_at-in-Err-Ended.ensures (laws.store-cut _ _ _ _ _ _ _ (c.end.ensures ∙ rest-ends _ _ c.args.start.inside) (rw (c.in-Err-Ended.field-0-is, c.after.ensures) at (sym c.read_register.ensures ∙ c.in-Err-Ended.is)))

pub returns-in_err-need_values : goal.returns-in_err-need_values
returns-in_err-need_values c = passed_up _ _ _ c.from_residual.ensures.1 (refused _ c.in_err-need_values.ensures.1 (laws.store-few _ _ _ _ _ _ _ _ (rw c.after.ensures at (sym c.read_register.ensures ∙ c.in-Ok.is)) (omega (arith, c.in_err-need_values.ensures.0))))

pub overflow_add-machine : goal.overflow_add-machine
unfolding row_room
overflow_add-machine c = omega (arith, c.args.machine.now.values (c.args.machine.now.depth.0 - 1) (omega (arith, c.in_ok-need_values.ensures)), c.args.machine.now.used, c.top-v.ensures)

pub returns : goal.returns
unfolding turned
returns c = still-lent c.args.machine.now _ _ _ _ _ _ _ refl refl refl (length-set c.args.machine.now.registers.now _ _) (laws.store_goes _ _ _ _ _ _ _ _ (rw c.after.ensures at (sym c.read_register.ensures ∙ c.in-Ok.is)) (ready c.args.machine.now _) (omega (arith, c.args.machine.now.every_byte, rw c.in-Ok.is at c.read_register.type_inv)) (omega (arith, c.in_ok-need_values.ensures)) _ c.top-v.ensures)
