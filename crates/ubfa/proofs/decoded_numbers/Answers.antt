-- `ubfa::decoded_numbers` meets its contract.
use mathlib.Core.Path.{refl}
use Rattle.format.specs.Answer.{decode_refusal}
use Rattle.decoder.specs.Answers.{decoded_as}
use Rattle.ubfa.specs.Answers.{decoded_struct}
use Rattle.ubfa.proofs.Places.{consumed-fits, place-fits}
use Rattle.ubfa.proofs.decoded_numbers.Goals as goal

pub overflow_cast-result : goal.overflow_cast-result
overflow_cast-result c = consumed-fits _ _ c.in-Ok.is c.requires

pub overflow_cast-result-in-Err : goal.overflow_cast-result-in-Err
overflow_cast-result-in-Err c = place-fits _ _ c.in-Err.is c.requires

pub returns-in-Ok : goal.returns-in-Ok
unfolding decoded_struct decoded_as
returns-in-Ok c t = rw c.in-Ok.is refl

pub returns-in-Err : goal.returns-in-Err
unfolding decoded_struct decoded_as decode_refusal
returns-in-Err c t = rw (c.in-Err.is, c.into.ensures) refl
