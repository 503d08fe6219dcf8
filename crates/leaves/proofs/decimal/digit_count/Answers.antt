-- `leaves::decimal::digit_count` meets its contract: the digits counted and those of what is left are all of them and one more, since one is counted at
-- first. At the end one or two are left.
use native.Mathlib.Omega.{arith}
use Rattle.format.proofs.Sizes.{natural-bound}
use Rattle.leaves.proofs.Decimals.{length_one, length_two, length-more_two}
use Rattle.leaves.proofs.decimal.digit_count.Goals as goal

pub loop-rest-init : goal.loop-rest-init
loop-rest-init c = omega (arith, natural-bound c.args.n 19 (omega arith))

pub loop-rest-preserved : goal.loop-rest-preserved
loop-rest-preserved c = omega (arith, length-more_two _ c.loop-rest-test.true)

pub returns-then-rest-lt10 : goal.returns-then-rest-lt10
returns-then-rest-lt10 c =
    let one = length_one _ c.if-rest-lt10.true in
    record { value = omega arith; upper_bound = omega arith }

pub returns : goal.returns
returns c =
    let two = length_two _ c.if-rest-lt10.false c.loop-rest-test.false in
    record { value = omega arith; upper_bound = omega arith }
