-- The digits of a tenth are stored by the other function, and the last digit after them.
use native.Mathlib.Omega.{arith}
use Rattle.leaves.proofs.Decimals.{length_one, length_more, stored_one, stored_more}
use Rattle.leaves.proofs.decimal.+put_natural_put_tenth.Goals as goal

pub put_natural-put_digit-requires : goal.put_natural-put_digit-requires
put_natural-put_digit-requires t c = omega (arith, length_one _ c.if-n-lt10.true)

pub put_natural-returns-then-n-lt10 : goal.put_natural-returns-then-n-lt10
put_natural-returns-then-n-lt10 t c =
    let all = stored_one _ _ _ c.if-n-lt10.true (c.put_digit.ensures.output_after, c.put_digit.ensures.value) in
    record { output_after = all.0; value = all.1 }

pub put_natural-put_tenth-last-requires : goal.put_natural-put_tenth-last-requires
put_natural-put_tenth-last-requires t c = omega (arith, length_more _ c.if-n-lt10.false)

pub put_natural-put_digit-requires-2 : goal.put_natural-put_digit-requires-2
put_natural-put_digit-requires-2 t c = omega (arith, length_more _ c.if-n-lt10.false)

pub put_natural-returns : goal.put_natural-returns
put_natural-returns t c =
    let tenth = c.put_tenth-last.ensures in
    let digit = c.put_digit-2.ensures in
    let all = stored_more _ _ _ c.if-n-lt10.false (tenth.output_after, tenth.value) (digit.output_after, digit.value) in
    record { output_after = all.0; value = all.1 }

pub put_tenth-put_digit-requires : goal.put_tenth-put_digit-requires
put_tenth-put_digit-requires t c = omega (arith, length_one _ c.if-n-lt10.true)

pub put_tenth-returns-then-n-lt10 : goal.put_tenth-returns-then-n-lt10
put_tenth-returns-then-n-lt10 t c =
    let all = stored_one _ _ _ c.if-n-lt10.true (c.put_digit.ensures.output_after, c.put_digit.ensures.value) in
    record { output_after = all.0; value = all.1 }

pub put_tenth-put_natural-last-requires : goal.put_tenth-put_natural-last-requires
put_tenth-put_natural-last-requires t c = omega (arith, length_more _ c.if-n-lt10.false)

pub put_tenth-put_digit-requires-2 : goal.put_tenth-put_digit-requires-2
put_tenth-put_digit-requires-2 t c = omega (arith, length_more _ c.if-n-lt10.false)

pub put_tenth-returns : goal.put_tenth-returns
put_tenth-returns t c =
    let tenth = c.put_natural-last.ensures in
    let digit = c.put_digit-2.ensures in
    let all = stored_more _ _ _ c.if-n-lt10.false (tenth.output_after, tenth.value) (digit.output_after, digit.value) in
    record { output_after = all.0; value = all.1 }
