-- `scan::plain_until` meets its contract: the bytes passed are plain.
use Rattle.std.proofs.Common.{◌∙◌, arith}
use Rattle.std.proofs.lemmas.Bool.Decides.{nat_tests}
use Rattle.scan.specs.Plain.{is_mark}
use Rattle.scan.proofs.Runs as laws
use Rattle.scan.proofs.plain_until.Goals as goal

pub returns-then-b-quote : goal.returns-then-b-quote
unfolding is_mark
returns-then-b-quote c = laws.stays _ _ _ c.loop-i-test.true (grind (arith, nat_tests)) ∙ c.loop-i.invariant

pub loop-i-preserved : goal.loop-i-preserved
loop-i-preserved c =
    let plain = laws.no_mark _ _ c.if-b-quote.false c.if-b-eq-BACKSLASH.false in
    laws.next _ _ _ c.loop-i-test.true plain ∙ c.loop-i.invariant

pub returns : goal.returns
returns c = laws.past _ _ _ c.loop-i-test.false ∙ c.loop-i.invariant
