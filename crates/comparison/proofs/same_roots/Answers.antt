-- `comparison::same_roots` meets its contract: the classes of the roots tell whether the tables' terms are the same.
use Prim.Native.Nat.{ℕ}
use mathlib.Core.Path.{ap, ◌∙◌}
use mathlib.Core.List.{List}
use Rattle.comparison.specs.Same.{same_class}
use Rattle.comparison.specs.Sides.{side_of}
use Rattle.comparison.proofs.Searches.{roots}
use Rattle.comparison.proofs.same_roots.Goals as goal

pub returns : goal.returns
returns c =
    c.same_class.ensures ∙ ap (λ (l : List ℕ). same_class l 0 c.args.root_a.0 c.args.a.used c.args.root_b.0) c.number_classes.ensures
    ∙ roots (side_of c.args.a) (side_of c.args.b) _ _ c.requires.among.0 c.requires.among.1
