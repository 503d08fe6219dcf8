-- `scan::marks_in_block` meets its contract: while no mark is found, the bytes looked at are plain.
use Rattle.std.proofs.Common.{◌≡◌, length, ◌∙◌, sym, arith}
use Rattle.std.proofs.lemmas.Nat.{le_or_l, le_or_r}
use Rattle.scan.proofs.Runs as laws
use Rattle.scan.proofs.marks_in_block.Goals as goal

pub loop-b-preserved : goal.loop-b-preserved
loop-b-preserved c = λ none.
    let plain = laws.not-counted _ _ c.mark-marks.ensures (omega (arith, none, le_or_r c.loop-b.marks c.mark-marks.result)) in
    laws.next _ _ _ (omega arith) plain ∙ c.loop-b.invariant (omega (arith, none, le_or_l c.loop-b.marks c.mark-marks.result))

pub returns : goal.returns
returns c = λ none.
    let whole : c.loop-b.b-index ≡ length c.args.block.now = omega arith in
    sym (c.loop-b.invariant none) ∙ sym (laws.past _ _ c.loop-b.b-index (omega arith)) ∙ whole
