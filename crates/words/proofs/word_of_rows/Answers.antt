-- `words::word_of_rows` meets its contract.
use mathlib.Core.Path.{◌∙◌}
use Rattle.words.specs.Answers.{word_as}
use Rattle.words.proofs.Rows as laws
use Rattle.words.proofs.word_of_rows.Goals as goal

pub returns-then-tag : goal.returns-then-tag
unfolding word_as
returns-then-tag c = laws.no_tag _ _ _ _ c.if-tag.true

pub returns-then-block : goal.returns-then-block
unfolding word_as
returns-then-block c = laws.no_binary _ _ _ _ c.if-tag.false c.if-block.true

pub returns : goal.returns
returns c = rw (c.span.ensures, c.span-2.ensures) at c.word_named.ensures ∙ laws.word_of _ _ _ _ c.if-tag.false c.if-block.false
