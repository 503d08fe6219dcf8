-- `comparison::classes::number_classes` meets its contract: the classes of the rows passed are known.
use Prim.Native.Nat.{◌<◌}
use lib.ListN.{length}
use mathlib.Core.Path.{refl}
use native.Mathlib.Omega.{arith}
use Rattle.comparison.specs.Classes.{class_list}
use Rattle.comparison.specs.Sides.{side_of}
use Rattle.comparison.proofs.Searches.{few, one_more}
use Rattle.comparison.proofs.classes.number_classes.Goals as goal

pub overflow_add-n-end : goal.overflow_add-n-end
overflow_add-n-end c = omega (arith, few (side_of c.args.a) c.args.a.sound, few (side_of c.args.b) c.args.b.sound)

pub loop-n-init : goal.loop-n-init
unfolding class_list
loop-n-init c = refl

pub loop-n-preserved : goal.loop-n-preserved
loop-n-preserved c =
    let inside : c.loop-n.n < length c.loop-n.classes = omega arith in
    one_more _ _ _ _ inside c.loop-n.invariant c.class_of-found.ensures
