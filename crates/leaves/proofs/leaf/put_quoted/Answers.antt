-- `leaves::leaf::put_quoted` meets its contract: the quote, the bytes and the quote are stored, each after the one before.
use mathlib.Core.Path.{ap, ◌∙◌}
use native.Mathlib.Omega.{arith}
use lib.ListN.{length, length-set}
use lib.Seq.{length-sets}
use Rattle.leaves.proofs.Leaves.{length-between, stored-quoted}
use Rattle.leaves.proofs.leaf.put_quoted.Goals as goal

pub put_byte-requires-2 : goal.put_byte-requires-2
put_byte-requires-2 c =
    let first = simp length-set at (ap length c.put_byte.ensures.bytes) in
    omega (arith, length-between c.args.quote c.args.bytes.now, first, simp length-sets at (ap length c.put_span.ensures.bytes))

pub returns : goal.returns
returns c =
    let first = c.put_byte.ensures in
    let bytes = c.put_span.ensures in
    let last = c.put_byte-2.ensures in
    let all = stored-quoted _ _ _ _ (first.bytes, first.at) (bytes.bytes, bytes.at) (last.bytes, last.at) in
    record { same = last.same ∙ (bytes.same ∙ first.same); bytes = all.0; at = all.1 }
