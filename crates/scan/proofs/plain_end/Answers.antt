-- `scan::plain_end` meets its contract: a mark among the first bytes is the first one, and with none there the look goes on past them.
use Rattle.std.proofs.Common.{◌∙◌, arith}
use Rattle.scan.proofs.Runs as laws
use Rattle.scan.proofs.plain_end.Goals as goal

pub returns-then-i-soon : goal.returns-then-i-soon
returns-then-i-soon c = c.plain_until-i.ensures ∙ laws.soon-one _ _ c.args.from 16 (omega (arith, c.plain_until-i.ensures))

pub returns : goal.returns
returns c = c.plain_end_by_blocks.ensures ∙ laws.soon-none _ _ c.args.from 16 (omega (arith, c.plain_until-i.ensures))
