-- `comparison::same::same_short` meets its contract: a byte that differs, or none up to the end.
use mathlib.Core.Path.{◌∙◌}
use native.Mathlib.Omega.{arith}
use Rattle.comparison.proofs.Spans as laws
use Rattle.comparison.proofs.same.same_short.Goals as goal

pub returns-then-a-i : goal.returns-then-a-i
returns-then-a-i c = laws.byte-differs c.args.a.now c.args.b.now c.loop-i.i (omega arith) (omega (arith, c.requires)) c.if-a-i.true ∙ c.loop-i.invariant

pub loop-i-preserved : goal.loop-i-preserved
loop-i-preserved c = laws.byte_same c.args.a.now c.args.b.now c.loop-i.i (omega arith) (omega (arith, c.requires)) c.if-a-i.false ∙ c.loop-i.invariant

pub returns : goal.returns
returns c = laws.ended c.args.a.now c.args.b.now c.loop-i.i (omega arith) (omega (arith, c.requires)) ∙ c.loop-i.invariant
