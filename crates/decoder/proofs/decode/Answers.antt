-- `decoder::decode` meets its contract: refusals 1 and 2 touch nothing; else the run with empty registers, and the tables settled.
use mathlib.Core.Path.{sym}
use Rattle.decoder.proofs.Decodes.{over, short, is-zeroed, decoded}
use native.Mathlib.Omega.{arith}
use Rattle.decoder.proofs.decode.Goals as goal

pub returns-then-message-gt-MESSAGE_BYTES : goal.returns-then-message-gt-MESSAGE_BYTES
returns-then-message-gt-MESSAGE_BYTES c = over _ _ c.if-message-gt-MESSAGE_BYTES.true

pub returns-then-registers-lt-REGISTER_WORDS : goal.returns-then-registers-lt-REGISTER_WORDS
returns-then-registers-lt-REGISTER_WORDS c = short _ _ c.if-message-gt-MESSAGE_BYTES.false c.if-registers-lt-REGISTER_WORDS.true

pub run-answer-requires : goal.run-answer-requires
run-answer-requires c = record { bounds = (c.if-message-gt-MESSAGE_BYTES.false, omega arith); registers_empty = is-zeroed _ _ c.clear.ensures }

pub returns : goal.returns
returns c = decoded _ _ _ _ _ _ c.clear.ensures c.if-message-gt-MESSAGE_BYTES.false c.if-registers-lt-REGISTER_WORDS.false _ _ (record { rows = sym c.run-answer.auto.rows; stack = sym c.run-answer.auto.stack; marks = sym c.run-answer.auto.marks; registers = sym c.run-answer.auto.registers }) _ c.run-answer.ensures c.settle.ensures
