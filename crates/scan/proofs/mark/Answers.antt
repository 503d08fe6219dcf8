-- `scan::mark` meets its contract: its test is the definition's.
use Rattle.std.proofs.Common.{arith}
use Rattle.std.proofs.lemmas.Bool.Decides.{nat_tests}
use Rattle.scan.specs.Plain.{is_mark, mark_count}
use Rattle.scan.proofs.mark.Goals as goal
use Rattle.scan.proofs.mark.Goals.{then-b-quote, else-b-quote}

pub returns : goal.returns
unfolding is_mark mark_count
returns c =
    elim c.if-b-quote.branch [ then-b-quote w ↦ grind (arith, nat_tests) | else-b-quote w ↦ grind (arith, nat_tests) ]
