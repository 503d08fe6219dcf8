-- `leaves::leaf::from_halves` meets its contract.
use native.Mathlib.Omega.{arith}
use Rattle.leaves.proofs.Leaves.{positive, negative}
use Rattle.leaves.proofs.leaf.from_halves.Goals as goal

pub returns-then-high-lt-SIGN_BIT : goal.returns-then-high-lt-SIGN_BIT
returns-then-high-lt-SIGN_BIT c = positive _ _ c.if-high-lt-SIGN_BIT.true (omega arith)

pub returns : goal.returns
returns c = negative _ _ c.if-high-lt-SIGN_BIT.false (omega arith)
