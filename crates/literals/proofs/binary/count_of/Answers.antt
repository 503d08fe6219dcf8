-- `literals::binary::count_of` meets its contract: no integer, a negative one, or its value.
use native.Mathlib.Omega.{arith}
use Rattle.literals.proofs.Binaries.{is_no_count, is_negative, is-count}
use Rattle.literals.proofs.binary.count_of.Goals as goal

pub returns-then-words : goal.returns-then-words
returns-then-words c = (is_no_count _ c.if-words.true)

pub returns-then-words-ge-SIGN_BIT : goal.returns-then-words-ge-SIGN_BIT
returns-then-words-ge-SIGN_BIT c = (is_negative _ c.if-words.false (omega arith) c.if-words-ge-SIGN_BIT.true)

pub returns : goal.returns
returns c = (is-count _ c.if-words.false (omega arith) c.if-words-ge-SIGN_BIT.false)
