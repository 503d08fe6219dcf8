-- `words::word_named` meets its contract.
use mathlib.Core.Path.{◌∙◌}
use Rattle.words.specs.Answers.{word_as}
use Rattle.words.proofs.Tags as laws
use Rattle.words.proofs.word_named.Goals as goal

pub returns-in_default : goal.returns-in_default
unfolding word_as
returns-in_default c = laws.unknown _ _ _ c.in_default.ensures

pub returns : goal.returns
returns c = c.word_in.ensures ∙ laws.known _ _ _ _ c.in-Some.ensures
