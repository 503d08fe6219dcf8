-- `words::formats::find` meets its contract: the table of the code follows the definition's list.
use mathlib.Core.Path.{refl}
use Rattle.format.specs.Byte.{bytes_of}
use Rattle.format.specs.Word.{format, formats, join_after, joined}
use Rattle.words.specs.Known.{order_of, format_of}
use Rattle.words.proofs.Names as laws
use Rattle.words.proofs.formats.find.Goals as goal

pub returns-in_err-number : goal.returns-in_err-number
returns-in_err-number c = rw c.from_residual.ensures (laws.other-unknown c.args.name.now c.in_err-number.ensures.0 c.in_err-number.ensures.1)

pub loop-format-init : goal.loop-format-init
unfolding formats format bytes_of joined join_after format_of order_of
loop-format-init c = record { follows = refl; same = refl }

pub loop-format-preserved : goal.loop-format-preserved
loop-format-preserved c =
    laws.one_passed c.args.name.now (λ i. (c.type_inv.name i).fits) _ c.in_ok-number.ensures _ _ c.loop-format.invariant
    c.loop-format-test.true _ c.if-format-number.false

pub returns-then-format-number : goal.returns-then-format-number
returns-then-format-number c =
    laws.one-found c.args.name.now (λ i. (c.type_inv.name i).fits) _ c.in_ok-number.ensures _ _ c.loop-format.invariant
    c.loop-format-test.true _ c.if-format-number.true

pub returns : goal.returns
returns c =
    laws.none-found c.args.name.now (λ i. (c.type_inv.name i).fits) _ c.in_ok-number.ensures _ _ c.loop-format.invariant c.loop-format-test.false
