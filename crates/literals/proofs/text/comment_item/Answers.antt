-- `literals::text::comment_item` meets its contract: closed text is passed, and other text is refused.
use Prim.Native.Char.{code}
use mathlib.Core.Path.{sym}
use Rattle.format.specs.Lex.{comment_item}
use Rattle.machine.specs.Held.{held, stands, turned}
use Rattle.machine.proofs.Lent.{ready, as-lent, passed_up}
use Rattle.machine.proofs.Passes.{rest-ends}
use Rattle.literals.proofs.Spans as laws
use Rattle.literals.proofs.text.comment_item.Goals as goal

pub returns-in_err-end : goal.returns-in_err-end
unfolding turned
returns-in_err-end c m =
    passed_up m _ _ c.from_residual.ensures.1
    (as-lent m (laws.unclosed (code "%") (held m) (stands m c.args.start.at.0) _ comment_item _ (rest-ends _ _ c.args.start.inside) _ (rw c.after.ensures at (sym c.in_err-end.ensures))))

pub returns : goal.returns
unfolding turned
returns c m = as-lent m (laws.comment_passes _ _ _ _ _ _ _ _ (ready m c.args.start.at.0) (rw c.after.ensures at (laws.was-closed _ _ _ (sym c.in_ok-end.ensures))))
