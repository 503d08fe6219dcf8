-- `operators::list::cons_item` meets its contract: too few to pop, no list, or a row for the cell.
use mathlib.Core.Path.{refl, sym, ap, ◌∙◌}
use native.Mathlib.Omega.{arith}
use Rattle.format.specs.Rows.{Row, is_list_kind}
use Rattle.machine.proofs.Lent.{ready, as-lent, refused, passed_up}
use Rattle.operators.proofs.Lists.{cons-few, cons_7, cons-made}
use Rattle.operators.proofs.list.cons_item.Goals as goal

pub returns-in_err-need_values : goal.returns-in_err-need_values
returns-in_err-need_values c r = passed_up c.args.machine.now _ _ c.from_residual.ensures.1 (refused c.args.machine.now c.in_err-need_values.ensures.1 (cons-few _ _ _ _ _ r (omega (arith, c.in_err-need_values.ensures.0))))

pub returns-then-not-is_list : goal.returns-then-not-is_list
returns-then-not-is_list c r =
    let kind = sym (ap (λ (x : Row). is_list_kind x.kind) c.row.ensures) ∙ sym c.is_list.ensures ∙ c.if-not-is_list.true in
    refused c.args.machine.now c.refused_at.ensures (cons_7 _ _ _ _ _ r (ready c.args.machine.now _) (omega (arith, c.in_ok-need_values.ensures)) _ _ refl c.top-list.ensures kind)

pub returns : goal.returns
returns c r =
    let m = c.args.machine.now in
    let kind = sym (ap (λ (x : Row). is_list_kind x.kind) c.row.ensures) ∙ sym c.is_list.ensures ∙ c.if-not-is_list.false in
    c.push_value.ensures.turn 0 (omega (arith, c.after.ensures))
    ∙ as-lent m (cons-made _ _ _ _ _ r (ready m _) (omega (arith, c.in_ok-need_values.ensures)) _ _ c.top-item.ensures c.top-list.ensures kind)
