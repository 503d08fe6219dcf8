-- `ubfa::UbfaComparedFromResultBoolRefusal::from` gives the numbers of an answer.
use mathlib.Core.Path.{refl}
use native.Mathlib.Omega.{arith}
use Rattle.format.specs.Answer.{compare_refusal}
use Rattle.comparison.specs.Answers.{compared_as}
use Rattle.ubfa.specs.Answers.{compared_struct}
use Rattle.ubfa.proofs.UbfaComparedFromResultBoolRefusal.from.Goals as goal

pub returns-in-Ok : goal.returns-in-Ok
unfolding compared_struct compared_as
returns-in-Ok c scratch = rw (c.in-Ok.is, c.from.ensures) (grind arith)

pub returns-in-Err : goal.returns-in-Err
unfolding compared_struct compared_as compare_refusal
returns-in-Err c scratch = rw (c.in-Err.is, c.into.ensures) refl
