-- `comparison::compare` meets its contract: 1, 2, or what the rest answers, with the scratch cleared.
use native.Mathlib.Omega.{arith}
use Rattle.comparison.proofs.Answered as laws
use Rattle.comparison.proofs.compare.Goals as goal

pub returns-then-a-gt-MESSAGE_BYTES : goal.returns-then-a-gt-MESSAGE_BYTES
returns-then-a-gt-MESSAGE_BYTES c = laws.over_first _ _ _ _ _ _ _ _ _ c.if-a-gt-MESSAGE_BYTES.true

pub returns-then-b-gt-MESSAGE_BYTES : goal.returns-then-b-gt-MESSAGE_BYTES
returns-then-b-gt-MESSAGE_BYTES c =
    laws.over-second _ _ _ _ _ _ _ _ _ c.if-a-gt-MESSAGE_BYTES.false c.if-b-gt-MESSAGE_BYTES.true

pub returns-then-scratch-rows_of_both : goal.returns-then-scratch-rows_of_both
returns-then-scratch-rows_of_both c =
    laws.short-scratch _ _ _ _ _ _ _ _ _ c.if-a-gt-MESSAGE_BYTES.false c.if-b-gt-MESSAGE_BYTES.false (omega arith)

pub returns : goal.returns
returns c = let told = c.compare_tables-answer in laws.cleared _ _ _ _ _ _ _ _ _ _ _ _ told.auto.scratch c.clear.ensures told.ensures
