-- `words::read_word` meets its contract.
use mathlib.Core.Path.{sym, ◌∙◌}
use native.Mathlib.Omega.{arith}
use Rattle.format.proofs.TableRows.{passed}
use Rattle.words.specs.Answers.{word_as}
use Rattle.words.proofs.Rows as laws
use Rattle.words.proofs.read_word.Goals as goal

pub returns-then-table-gt-MESSAGE_BYTES : goal.returns-then-table-gt-MESSAGE_BYTES
unfolding word_as
returns-then-table-gt-MESSAGE_BYTES c = laws.over-bound _ _ _ _ _ c.if-table-gt-MESSAGE_BYTES.true

pub returns-then-not-sound_table : goal.returns-then-not-sound_table
unfolding word_as
returns-then-not-sound_table c = laws.unsound _ _ _ _ _ c.if-table-gt-MESSAGE_BYTES.false (sym c.sound_table.ensures ∙ c.if-not-sound_table.true)

pub read_row-tag-requires : goal.read_row-tag-requires
read_row-tag-requires c =
    let table = c.args.table in
    let tested = passed table.message.now table.rows.now table.used table.root.0 (rw (sym c.sound_table.ensures ∙ c.if-not-sound_table.false) tt) in
    omega (arith, tested.fits, tested.among)

pub word_of_rows-requires : goal.word_of_rows-requires
word_of_rows-requires c e = laws.spans _ _ _ _ (sym c.sound_table.ensures ∙ c.if-not-sound_table.false) _ _ c.read_row-tag.ensures c.load_row-block.ensures e

pub returns : goal.returns
returns c =
    c.word_of_rows.ensures
    ∙ laws.table-word _ _ _ _ (sym c.sound_table.ensures ∙ c.if-not-sound_table.false) _ _ c.read_row-tag.ensures c.load_row-block.ensures _ c.if-table-gt-MESSAGE_BYTES.false
