-- `leaves::leaf::put_integer` meets its contract: a minus goes before the magnitude of a negative one.
use mathlib.Core.Path.{ap, ◌∙◌}
use native.Mathlib.Omega.{arith}
use lib.ListN.{length, length-set}
use Rattle.leaves.proofs.Leaves.{length-negative, stored-negative}
use Rattle.leaves.proofs.leaf.put_integer.Goals as goal

pub put_byte-requires : goal.put_byte-requires
put_byte-requires c = omega (arith, length-negative c.args.n c.if-negative.true)

pub put_magnitude-requires : goal.put_magnitude-requires
put_magnitude-requires c = omega (arith, length-negative c.args.n c.if-negative.true, simp length-set at (ap length c.put_byte.ensures.bytes))

pub returns-then-negative : goal.returns-then-negative
returns-then-negative c =
    let minus = c.put_byte.ensures in
    let digits = c.put_magnitude.ensures in
    let all = stored-negative _ _ _ c.if-negative.true (minus.bytes, minus.at) (digits.bytes, digits.at) in
    record { same = digits.same ∙ minus.same; bytes = all.0; at = all.1 }
