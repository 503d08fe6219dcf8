-- `comparison::same::same_class` meets its contract.
use mathlib.Core.Path.{ap₂}
use lib.Dec.{eqb}
use Rattle.comparison.specs.Same.{same_class}
use Rattle.comparison.proofs.same.same_class.Goals as goal

pub returns : goal.returns
unfolding same_class
returns c = ap₂ eqb c.class_at.ensures c.class_at-2.ensures
