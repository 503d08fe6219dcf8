-- `text::write` meets its contract: 1, 2, or what the rest answers, with the scratch cleared.
use Rattle.text.proofs.Answered.{over-bound, short-scratch, cleared}
use Rattle.text.proofs.write.Goals as goal

pub returns-then-table-gt-MESSAGE_BYTES : goal.returns-then-table-gt-MESSAGE_BYTES
returns-then-table-gt-MESSAGE_BYTES c = over-bound _ _ _ _ _ _ c.if-table-gt-MESSAGE_BYTES.true

pub returns-then-scratch-table : goal.returns-then-scratch-table
returns-then-scratch-table c = short-scratch _ _ _ _ _ _ c.if-table-gt-MESSAGE_BYTES.false c.if-scratch-table.true

pub returns : goal.returns
returns c = cleared _ _ _ _ _ _ _ _ _ _ c.write_table-answer.auto.scratch c.clear.ensures c.write_table-answer.ensures
