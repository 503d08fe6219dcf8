-- `leaves::leaf::put_bytes` meets its contract: the count is stored, where there is one, and the bytes between two quotes after it.
use mathlib.Core.Path.{ap, ◌∙◌}
use lib.ListN.{length}
use lib.Seq.{length-sets}
use Rattle.std.proofs.Common.{refl, arith}
use Rattle.format.specs.Kinds.{kind_number}
use Rattle.leaves.proofs.Leaves.{length-bytes, stored_bytes}
use Rattle.leaves.proofs.leaf.put_bytes.Goals as goal

pub put_count-requires : goal.put_count-requires
put_count-requires c = omega (arith, length-bytes (kind_number c.args.k) c.args.bytes.now refl)

pub put_quoted-requires : goal.put_quoted-requires
put_quoted-requires c =
    omega (arith, length-bytes (kind_number c.args.k) c.args.bytes.now c.quote_of.ensures, simp length-sets at (ap length c.put_count.ensures.bytes))

pub returns : goal.returns
returns c =
    let count = c.put_count.ensures in
    let quoted = c.put_quoted.ensures in
    let all = stored_bytes _ _ c.quote_of.ensures _ _ (count.bytes, count.at) (quoted.bytes, quoted.at) in
    record { same = quoted.same ∙ count.same; bytes = all.0; at = all.1 }
