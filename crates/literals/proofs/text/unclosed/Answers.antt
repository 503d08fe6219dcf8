-- `literals::text::unclosed` meets its contract, arm by arm.
use mathlib.Core.Path.{refl}
use Rattle.literals.specs.Readers.{unclosed_as}
use Rattle.literals.proofs.text.unclosed.Goals as goal
use Rattle.literals.proofs.text.unclosed.Goals.{in-Stray, in-Ended}

pub returns : goal.returns
unfolding unclosed_as
returns c = elim c.match-why.branch [ in-Stray w ↦ rw (w.in-Stray.is, w.refusal-is) refl | in-Ended w ↦ rw (w.in-Ended.is, w.refusal-is) refl ]
