-- `literals::text::quoted_item` meets its contract: closed text makes a row, and other text is refused.
use mathlib.Core.Path.{sym, ◌∙◌}
use native.Mathlib.Nat.{sub-zero}
use native.Mathlib.Omega.{arith}
use Rattle.machine.specs.Held.{held, stands, turned}
use Rattle.machine.proofs.Lent.{as-lent, passed_up}
use Rattle.machine.proofs.Passes.{rest-ends}
use Rattle.literals.proofs.Spans as laws
use Rattle.literals.proofs.text.quoted_item.Goals as goal

pub returns-in_err-count-clause-turn : goal.returns-in_err-count-clause-turn
unfolding turned
returns-in_err-count-clause-turn c item _ =
    let m = c.args.machine.now in
    passed_up m _ _ c.from_residual.ensures.1
    (as-lent m (laws.unclosed _ (held m) (stands m c.args.start.at.0) _ item _ (rest-ends _ _ c.args.start.inside) _ (rw c.after-first.ensures at (sym c.in_err-count.ensures))))

pub overflow_cast-count : goal.overflow_cast-count
overflow_cast-count c = omega (arith, c.args.start.bounded, laws.shorter _ _ _ _ _ (rw c.after-first.ensures at (laws.was-closed _ _ _ (sym c.in_ok-count.ensures))))

pub returns-clause-turn : goal.returns-clause-turn
returns-clause-turn c item f =
    let closed = rw c.after-first.ensures at (laws.was-closed _ _ _ (sym c.in_ok-count.ensures)) in
    c.push_value.ensures.turn _ (laws.closed _ _ _ _ _ closed).1
    ∙ rw (sub-zero, laws.as_number c.args.kind, c.after-first.ensures) (as-lent c.args.machine.now (laws.span-made _ _ _ _ _ _ _ _ _ _ item f closed))
