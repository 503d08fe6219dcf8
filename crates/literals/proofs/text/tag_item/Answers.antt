-- `literals::text::tag_item` meets its contract: closed text over a value above the base makes a row, and anything else is refused.
use Prim.Native.Char.{code}
use mathlib.Core.Path.{sym, ◌∙◌}
use native.Mathlib.Omega.{arith}
use Rattle.format.specs.Lex.{tag_item}
use Rattle.machine.specs.Held.{held, stands, turned}
use Rattle.machine.proofs.Lent.{as-lent, refused, passed_up}
use Rattle.machine.proofs.Passes.{rest-ends}
use Rattle.literals.proofs.Spans as laws
use Rattle.literals.proofs.text.tag_item.Goals as goal

pub returns-in-Err : goal.returns-in-Err
unfolding turned
returns-in-Err c =
    let m = c.args.machine.now in
    rw c.unclosed.ensures
    (as-lent m (laws.refused-text (code "`") (held m) (stands m c.args.start.at.0) _ tag_item _ (c.end.ensures ∙ rest-ends _ _ c.args.start.inside) _ (rw c.after-first.ensures at (sym c.read_name-read.ensures ∙ c.in-Err.is))))

pub returns-in_err-need_values : goal.returns-in_err-need_values
returns-in_err-need_values c =
    passed_up c.args.machine.now _ _ c.from_residual.ensures.1
    (refused c.args.machine.now c.in_err-need_values.ensures.1 (laws.tag-few _ _ _ _ _ _ _ _ (rw c.after-first.ensures at (sym c.read_name-read.ensures ∙ c.in-Ok.is)) (omega (arith, c.in_err-need_values.ensures.0))))

pub overflow_cast-count : goal.overflow_cast-count
overflow_cast-count c = omega (arith, c.args.start.bounded, laws.shorter _ _ _ _ _ (rw c.after-first.ensures at (sym c.read_name-read.ensures ∙ c.in-Ok.is)))

pub returns : goal.returns
returns c =
    let m = c.args.machine.now in
    let closed = rw c.after-first.ensures at (sym c.read_name-read.ensures ∙ c.in-Ok.is) in
    c.push_value.ensures.turn _ (laws.closed _ _ _ _ _ closed).1
    ∙ rw c.after-first.ensures
    (as-lent m (laws.tag-made _ _ _ _ _ _ _ _ closed (omega (arith, c.in_ok-need_values.ensures)) _ c.top-inner.ensures))
