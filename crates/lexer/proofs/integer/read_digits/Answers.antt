-- `lexer::integer::read_digits` meets its contract: what the digits come to from a place on is what they come to from the first
-- place on.
use mathlib.Core.Path.{sym, ◌∙◌}
use native.Mathlib.Omega.{arith}
use Rattle.lexer.proofs.Bytes.{digit_range}
use Rattle.lexer.proofs.Runs as laws
use Rattle.lexer.proofs.integer.read_digits.Goals as goal

pub loop-i-init : goal.loop-i-init
loop-i-init c = laws.begins _ _ _ _ c.capped-value.ensures

pub returns-then-not-is_digit : goal.returns-then-not-is_digit
returns-then-not-is_digit c = laws.stops _ _ c.loop-i.invariant c.loop-i-test.true (sym c.is_digit.ensures ∙ c.if-not-is_digit.true)

pub overflow_sub-b : goal.overflow_sub-b
overflow_sub-b c = omega (arith, digit_range _ (sym c.is_digit.ensures ∙ c.if-not-is_digit.false))

pub shifted-value-requires : goal.shifted-value-requires
shifted-value-requires c = omega (arith, digit_range _ (sym c.is_digit.ensures ∙ c.if-not-is_digit.false))

pub loop-i-preserved : goal.loop-i-preserved
loop-i-preserved c = laws.passes _ _ c.loop-i.invariant c.loop-i-test.true (sym c.is_digit.ensures ∙ c.if-not-is_digit.false) c.shifted-value.ensures

pub returns : goal.returns
returns c = laws.ends _ _ c.loop-i.invariant c.loop-i-test.false
