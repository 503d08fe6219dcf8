-- `measure::length::integer_length` meets its contract.
use Rattle.std.proofs.Common.{ap, ◌∙◌, length}
use Rattle.leaves.proofs.Leaves.{size-negative, size-positive}
use Rattle.measure.proofs.length.integer_length.Goals as goal

pub returns-then-z : goal.returns-then-z
returns-then-z c = size-negative _ c.digit_count-digits.ensures.value c.if-z.true ∙ ap length c.from_halves-z.ensures

pub returns-else-z : goal.returns-else-z
returns-else-z c = size-positive _ c.digit_count-digits.ensures.value c.if-z.false ∙ ap length c.from_halves-z.ensures
