-- `lexer::integer::read_short` meets its contract: the integer from a place on is the integer from the first place on.
use mathlib.Core.Path.{refl, sym, ◌∙◌}
use native.Mathlib.Omega.{arith}
use Rattle.lexer.proofs.Bytes.{digit_range}
use Rattle.lexer.proofs.Integers as laws
use Rattle.lexer.proofs.integer.read_short.Goals as goal

pub loop-i-init : goal.loop-i-init
loop-i-init c = (c.requires, refl)

pub returns-then-not-is_digit : goal.returns-then-not-is_digit
returns-then-not-is_digit c = laws.short-stops _ _ _ c.loop-i-test.true (sym c.is_digit.ensures ∙ c.if-not-is_digit.true) c.loop-i.invariant.0 ∙ c.loop-i.invariant.1

pub overflow_mul-value : goal.overflow_mul-value
overflow_mul-value c = omega (arith, c.loop-i.invariant.0)

pub overflow_sub-value : goal.overflow_sub-value
overflow_sub-value c = omega (arith, digit_range _ (sym c.is_digit.ensures ∙ c.if-not-is_digit.false))

pub overflow_cast-value : goal.overflow_cast-value
overflow_cast-value c = omega (arith, digit_range _ (sym c.is_digit.ensures ∙ c.if-not-is_digit.false))

pub overflow_add-value : goal.overflow_add-value
overflow_add-value c = omega (arith, c.loop-i.invariant.0, digit_range _ (sym c.is_digit.ensures ∙ c.if-not-is_digit.false))

pub returns-then-value-gt-SMALL : goal.returns-then-value-gt-SMALL
returns-then-value-gt-SMALL c = c.read_long.ensures ∙ laws.short-passes _ _ _ c.loop-i-test.true (sym c.is_digit.ensures ∙ c.if-not-is_digit.false) ∙ c.loop-i.invariant.1

pub loop-i-preserved : goal.loop-i-preserved
loop-i-preserved c = (c.if-value-gt-SMALL.false, laws.short-passes _ _ _ c.loop-i-test.true (sym c.is_digit.ensures ∙ c.if-not-is_digit.false) ∙ c.loop-i.invariant.1)

pub returns : goal.returns
returns c = laws.short-ends _ _ _ c.loop-i-test.false c.loop-i.invariant.0 ∙ c.loop-i.invariant.1
