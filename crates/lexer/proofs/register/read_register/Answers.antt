-- `lexer::register::read_register` meets its contract, one law for each of its three answers.
use mathlib.Core.Path.{sym, ◌∙◌}
use Rattle.lexer.proofs.Registers as laws
use Rattle.lexer.proofs.register.read_register.Goals as goal

pub returns-then-message-i : goal.returns-then-message-i
returns-then-message-i c = sym (laws.ends _ _ c.if-message-i.true)

pub returns-then-not-is_register : goal.returns-then-not-is_register
returns-then-not-is_register c = sym (laws.strays _ _ c.if-message-i.false (sym c.is_register.ensures ∙ c.if-not-is_register.true))

pub returns : goal.returns
returns c = sym (laws.names _ _ c.if-message-i.false (sym c.is_register.ensures ∙ c.if-not-is_register.false))
