-- `decoder::run::run` meets its contract: the run from where the loop stands is the whole run.
use mathlib.Core.Path.{refl}
use native.Mathlib.Omega.{arith}
use Rattle.std.proofs.lemmas.Result.{err_from_is_err_and}
use Rattle.format.specs.Answer.{tables}
use Rattle.decoder.proofs.Turns.{all-empty}
use Rattle.decoder.proofs.Loop.{starts, here, no_more, over, goes_on, done, stopped}
use Rattle.decoder.proofs.run.run.Goals as goal

pub invariant_of-machine-clause-stored : goal.invariant_of-machine-clause-stored
invariant_of-machine-clause-stored c = all-empty (tables c.args.rows.now c.args.stack.now c.args.marks.now c.args.registers.now) c.requires.registers_empty

pub loop-b-init : goal.loop-b-init
loop-b-init c = starts _ _ refl c.requires.registers_empty

pub step-requires : goal.step-requires
step-requires c = c.classes-classes.ensures _ (rw (c.in-Some.ensures.lookup.3.1 0) (c.type_inv.message _).fits)

pub returns-in_err-next : goal.returns-in_err-next
returns-in_err-next c =
    let exit = err_from_is_err_and c.from_residual.result c.from_residual.ensures.1 in
    rw (exit.1, exit.2) (stopped _ _ _ _ _ _ c.loop-b.invariant (here _ _ _ c.in-Some.ensures.lookup.3) _ c.in_err-next.ensures _)

pub loop-b-smaller : goal.loop-b-smaller
loop-b-smaller c =
    let on = goes_on _ _ _ _ _ _ c.loop-b.invariant (here _ _ _ c.in-Some.ensures.lookup.3) _ (rw c.in-Continue.is at c.in_ok-next.ensures) in
    omega (arith, c.in-Some.ensures.lookup.3.0, on.1)

pub loop-b-preserved : goal.loop-b-preserved
loop-b-preserved c = (goes_on _ _ _ _ _ _ c.loop-b.invariant (here _ _ _ c.in-Some.ensures.lookup.3) _ (rw c.in-Continue.is at c.in_ok-next.ensures)).0

pub returns-in-Break : goal.returns-in-Break
returns-in-Break c = done _ _ _ _ _ _ c.loop-b.invariant (here _ _ _ c.in-Some.ensures.lookup.3) _ (search) _ (rw c.in-Break.is at c.in_ok-next.ensures)

pub returns : goal.returns
returns c = over _ _ _ _ c.loop-b.invariant (no_more _ _ c.in_default.ensures.lookup.0) _
