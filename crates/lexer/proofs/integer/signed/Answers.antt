-- `lexer::integer::signed` meets its contract, arm by arm.
use mathlib.Core.Path.{sym}
use Rattle.lexer.specs.Digits.{signed_from}
use Rattle.lexer.proofs.Signs as laws
use Rattle.lexer.proofs.integer.signed.Goals as goal

pub returns-then-v-gt-LARGEST : goal.returns-then-v-gt-LARGEST
returns-then-v-gt-LARGEST c = sym (laws.minus-large c.in-Ok.is c.if-negative.true c.if-v-gt-LARGEST.true)

pub returns-then-v-eq0 : goal.returns-then-v-eq0
returns-then-v-eq0 c = sym (laws.minus-zero c.in-Ok.is c.if-negative.true c.if-v-eq0.true)

pub returns-then-negative : goal.returns-then-negative
returns-then-negative c = sym (laws.minus c.in-Ok.is c.if-negative.true c.if-v-gt-LARGEST.false c.if-v-eq0.false)

pub returns-then-v-ge-LARGEST : goal.returns-then-v-ge-LARGEST
returns-then-v-ge-LARGEST c = sym (laws.large c.in-Ok.is c.if-negative.false c.if-v-ge-LARGEST.true)

pub returns-in-Err : goal.returns-in-Err
unfolding signed_from
returns-in-Err c = rw c.in-Err.is

pub returns-else-v-ge-LARGEST : goal.returns-else-v-ge-LARGEST
returns-else-v-ge-LARGEST c = sym (laws.plain c.in-Ok.is c.if-negative.false c.if-v-ge-LARGEST.false)
