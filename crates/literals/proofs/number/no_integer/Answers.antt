-- `literals::number::no_integer` meets its contract, arm by arm.
use mathlib.Core.Path.{refl}
use Rattle.literals.specs.Readers.{no_integer_as}
use Rattle.literals.proofs.number.no_integer.Goals as goal
use Rattle.literals.proofs.number.no_integer.Goals.{in-OutOfRange, in-Stray, in-Ended}

pub returns : goal.returns
unfolding no_integer_as
returns c =
    elim c.match-why.branch [
      | in-OutOfRange w ↦ rw (w.in-OutOfRange.is, w.refusal-is) refl
      | in-Stray w ↦ rw (w.in-Stray.is, w.refusal-is) refl
      | in-Ended w ↦ rw (w.in-Ended.is, w.refusal-is) refl
    ]
