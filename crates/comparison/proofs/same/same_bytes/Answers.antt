-- `comparison::same::same_bytes` meets its contract: other lengths, another first block, or all of the bytes.
use mathlib.Core.Path.{◌∙◌}
use Rattle.comparison.proofs.Spans.{pointwise-bytes, lengths-differ, block-differs}
use Rattle.comparison.proofs.same.same_bytes.Goals as goal

pub returns-then-a-b : goal.returns-then-a-b
returns-then-a-b c = lengths-differ c.args.a.now c.args.b.now c.if-a-b.true

pub returns-then-eq : goal.returns-then-eq
returns-then-eq c = c.eq-then-eq.ensures ∙ pointwise-bytes c.args.a.now c.args.b.now

pub returns-else-eq : goal.returns-else-eq
returns-else-eq c =
    c.if-eq.false ∙ block-differs _ c.args.a.now c.args.b.now c.in-Some-Some.ensures.cases c.in-Some-Some.ensures'.cases (rw c.if-eq.false at c.eq.ensures)
