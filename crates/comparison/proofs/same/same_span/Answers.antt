-- `comparison::same::same_span` meets its contract.
use Rattle.comparison.specs.Same.{same_span}
use Rattle.comparison.proofs.same.same_span.Goals as goal

pub span-requires : goal.span-requires
span-requires c = c.args.x.inside c.requires.0

pub span-requires-2 : goal.span-requires-2
span-requires-2 c = c.args.y.inside c.requires.1

pub returns : goal.returns
unfolding same_span
returns c = rw (c.span.ensures, c.span-2.ensures) at c.same_bytes.ensures
