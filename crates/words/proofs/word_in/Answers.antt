-- `words::word_in` meets its contract.
use mir.Syntax.{w64}
use mir.ValLaws.{to_z-of_z}
use Rattle.words.specs.Answers.{word_as}
use Rattle.words.proofs.Blocks as laws
use Rattle.words.proofs.word_in.Goals as goal

pub returns-then-block-width-ne0 : goal.returns-then-block-width-ne0
unfolding word_as
returns-then-block-width-ne0 c = laws.uneven _ c.args.layout _ c.if-block-width-ne0.true

pub returns-then-block-width : goal.returns-then-block-width
unfolding word_as
returns-then-block-width c = laws.past_end _ c.args.layout _ c.if-block-width-ne0.false c.if-block-width.true

pub number-requires : goal.number-requires
number-requires c = laws.bits_below _ c.args.layout _ c.if-block-width-ne0.false c.if-block-width.false _ (rw laws.word-long at c.join-bits.ensures) (λ i. (c.type_inv.block i).fits)

pub returns : goal.returns
unfolding word_as
returns c =
    rw (to_z-of_z w64 c.number.result (record { sfits = c.number.type_inv }))
    (laws.one_word _ c.args.layout _ c.if-block-width-ne0.false c.if-block-width.false _ (rw laws.word-long at c.join-bits.ensures) _ c.number.ensures)
