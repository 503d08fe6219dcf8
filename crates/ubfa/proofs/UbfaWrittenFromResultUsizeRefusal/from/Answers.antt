-- `ubfa::UbfaWrittenFromResultUsizeRefusal::from` gives the numbers of an answer.
use mathlib.Core.Path.{refl}
use Rattle.format.specs.Answer.{write_refusal}
use Rattle.text.specs.Answers.{written_as}
use Rattle.ubfa.specs.Answers.{written_struct}
use Rattle.ubfa.proofs.UbfaWrittenFromResultUsizeRefusal.from.Goals as goal

pub returns-in-Ok : goal.returns-in-Ok
unfolding written_struct written_as
returns-in-Ok c scratch output = rw c.in-Ok.is refl

pub returns-in-Err : goal.returns-in-Err
unfolding written_struct written_as write_refusal
returns-in-Err c scratch output = rw (c.in-Err.is, c.into.ensures) refl
