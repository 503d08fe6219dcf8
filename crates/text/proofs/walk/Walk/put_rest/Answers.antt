-- `text::walk::Walk::put_rest` meets its contract.
use mathlib.Core.Path.{sym, ◌∙◌}
use Rattle.text.specs.Walk.{coming_next, ReadyNext}
use Rattle.text.proofs.Passes.{gone_none, no_row, ready_there, room-there, gone-then}
use Rattle.text.proofs.walk.Walk.put_rest.Goals as goal

pub loop-self-init : goal.loop-self-init
loop-self-init c = gone_none _ _ c.requires.falling

pub put_frame-next-requires-clause-falling : goal.put_frame-next-requires-clause-falling
unfolding ReadyNext
put_frame-next-requires-clause-falling c = ready_there c.loop-self.invariant

pub put_frame-next-requires-clause-room : goal.put_frame-next-requires-clause-room
unfolding coming_next
put_frame-next-requires-clause-room c = room-there c.loop-self.invariant c.requires.room

pub returns-then-is_some-clause-gone_on : goal.returns-then-is_some-clause-gone_on
unfolding coming_next
returns-then-is_some-clause-gone_on c = gone-then c.loop-self.invariant c.put_frame-next.ensures.gone_on

pub loop-self-preserved : goal.loop-self-preserved
unfolding coming_next
loop-self-preserved c =
    let none = no_row c.put_frame-next.result (sym c.is_some.ensures ∙ c.if-is_some.false) in
    rw none at (gone-then c.loop-self.invariant c.put_frame-next.ensures.gone_on)
