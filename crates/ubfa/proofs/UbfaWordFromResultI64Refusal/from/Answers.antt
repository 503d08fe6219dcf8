-- `ubfa::UbfaWordFromResultI64Refusal::from` gives the numbers of an answer.
use mathlib.Core.Path.{refl}
use Rattle.std.proofs.Common.{rules}
use Rattle.words.specs.Answers.{word_as}
use Rattle.ubfa.specs.Answers.{word_struct}
use Rattle.ubfa.proofs.UbfaWordFromResultI64Refusal.from.Goals as goal

pub returns-in-Ok : goal.returns-in-Ok
unfolding word_struct word_as
returns-in-Ok c = rw c.in-Ok.is (search rules)

pub returns-in-Err : goal.returns-in-Err
unfolding word_struct word_as
returns-in-Err c = rw (c.in-Err.is, c.into.ensures) refl
