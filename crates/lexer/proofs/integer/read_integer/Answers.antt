-- `lexer::integer::read_integer` meets its contract, by what is begun.
use mathlib.Core.Path.{sym, ◌∙◌}
use native.Mathlib.Omega.{arith}
use Rattle.lexer.proofs.Bytes.{digit_range}
use Rattle.lexer.proofs.Integers as laws
use Rattle.lexer.proofs.integer.read_integer.Goals as goal

pub returns-then-negative : goal.returns-then-negative
returns-then-negative c = rw (c.in-Digits.is, c.if-negative.true) c.read_long.ensures

pub returns-then-message-i : goal.returns-then-message-i
returns-then-message-i c = sym (laws.ends _ _ c.in-Minus.is c.if-message-i.true)

pub returns-then-not-is_digit : goal.returns-then-not-is_digit
returns-then-not-is_digit c = sym (laws.strays _ _ c.in-Minus.is c.if-message-i.false (sym c.is_digit.ensures ∙ c.if-not-is_digit.true))

pub overflow_sub-b : goal.overflow_sub-b
overflow_sub-b c = omega (arith, digit_range _ (sym c.is_digit.ensures ∙ c.if-not-is_digit.false))

pub overflow_cast-b : goal.overflow_cast-b
overflow_cast-b c = omega (arith, digit_range _ (sym c.is_digit.ensures ∙ c.if-not-is_digit.false))

pub returns-else-negative : goal.returns-else-negative
returns-else-negative c = rw (c.in-Digits.is, c.if-negative.false) c.read_natural.ensures

pub returns-else-not-is_digit : goal.returns-else-not-is_digit
returns-else-not-is_digit c = laws.minus-on _ _ c.in-Minus.is c.if-message-i.false (sym c.is_digit.ensures ∙ c.if-not-is_digit.false) c.read_long-in-Minus.ensures
