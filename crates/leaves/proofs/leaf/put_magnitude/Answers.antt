-- `leaves::leaf::put_magnitude` meets its contract: the digits are stored, and the blank after them.
use mathlib.Core.Path.{ap, ◌∙◌}
use native.Mathlib.Omega.{arith}
use lib.ListN.{length}
use lib.Seq.{length-sets}
use Rattle.leaves.proofs.Leaves.{length_magnitude, stored_magnitude}
use Rattle.leaves.proofs.leaf.put_magnitude.Goals as goal

pub put_decimal-requires : goal.put_decimal-requires
put_decimal-requires c = omega (arith, length_magnitude c.args.n)

pub put_byte-requires : goal.put_byte-requires
put_byte-requires c = omega (arith, length_magnitude c.args.n, simp length-sets at (ap length c.put_decimal.ensures.bytes))

pub returns : goal.returns
returns c =
    let digits = c.put_decimal.ensures in
    let blank = c.put_byte.ensures in
    let all = stored_magnitude _ _ _ (digits.bytes, digits.at) (blank.bytes, blank.at) in
    record { same = blank.same ∙ digits.same; bytes = all.0; at = all.1 }
