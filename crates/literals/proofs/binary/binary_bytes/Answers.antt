-- `literals::binary::binary_bytes` meets its contract: too few bytes left, no `~` after them, or a row for the binary.
use Prim.Native.Nat.{suc}
use mathlib.Core.Path.{◌∙◌}
use native.Mathlib.Omega.{arith}
use Rattle.machine.proofs.Lent.{as-lent, refused}
use Rattle.literals.proofs.Binaries.{bytes_3, bytes_4, bytes-made}
use Rattle.literals.proofs.binary.binary_bytes.Goals as goal

pub returns-then-start-first : goal.returns-then-start-first
returns-then-start-first c = refused c.args.machine.now c.refused_at.ensures (rw c.end.ensures (bytes_3 _ _ _ _ c.args.start.inside (rw c.after-first.ensures at c.if-start-first.true)))

pub returns-then-start-end-ne-TILDE : goal.returns-then-start-end-ne-TILDE
returns-then-start-end-ne-TILDE c = refused c.args.machine.now c.refused_at-then-start-end-ne-TILDE.ensures (rw c.after-first.ensures (bytes_4 _ _ _ _ c.args.start.inside (rw c.after-first.ensures at c.if-start-first.false) (rw c.after-first.ensures at c.if-start-end-ne-TILDE.true)))

pub returns : goal.returns
returns c =
    let m = c.args.machine.now in
    c.push_value.ensures.turn (suc c.args.count) (omega (arith, c.after-first.ensures))
    ∙ rw c.after-first.ensures
    (as-lent m (bytes-made _ _ _ _ c.args.start.inside (rw c.after-first.ensures at c.if-start-first.false) (rw c.after-first.ensures at c.if-start-end-ne-TILDE.false)))
