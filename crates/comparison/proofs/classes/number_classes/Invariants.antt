-- `comparison::classes::number_classes` meets its contract: the classes of the rows passed are known.
use mathlib.Core.Path.{◌≡◌}
use lib.ListN.{take}
use Rattle.comparison.specs.Classes.{joint_term, class_list}
use Rattle.comparison.specs.Sides.{side_of}
use Rattle.comparison.proofs.classes.number_classes.Given as goal

abbrev pub invariant-loop-n : goal.invariant-loop-n
invariant-loop-n l = take l.n l.classes ≡ class_list (joint_term (side_of l.a) (side_of l.b)) l.n
