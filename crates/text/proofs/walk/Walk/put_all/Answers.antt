-- `text::walk::Walk::put_all` meets its contract.
use Rattle.text.proofs.Storing.{begins, above-next, room-next, falling-next, room-after, goes_on, shorter}
use Rattle.text.proofs.walk.Walk.put_all.Goals as goal

pub loop-next-init : goal.loop-next-init
loop-next-init c = record { gone_on = begins _ _ c.requires.begins; whole = λ e. c.requires.begins }

pub put_first-requires : goal.put_first-requires
put_first-requires c =
    let on = c.loop-next.invariant.gone_on in
    record { above = above-next on c.requires.room c.in-Some.is; room = room-next on c.requires.room c.in-Some.is }

pub put_rest-next-requires : goal.put_rest-next-requires
put_rest-next-requires c =
    let on = c.loop-next.invariant.gone_on in
    let first = c.put_first.ensures.gone_on in
    record { falling = falling-next on c.requires.room c.in-Some.is first; room = room-after on c.requires.room c.in-Some.is first }

pub loop-next-smaller : goal.loop-next-smaller
loop-next-smaller c =
    let first = c.put_first.ensures in
    shorter c.loop-next.invariant.gone_on c.requires.room c.in-Some.is first.gone_on c.put_rest-next.ensures.gone_on first.rises

pub loop-next-preserved : goal.loop-next-preserved
loop-next-preserved c =
    let on = c.loop-next.invariant.gone_on in
    let rest = c.put_rest-next.ensures in
    record { gone_on = goes_on on c.requires.room c.in-Some.is c.put_first.ensures.gone_on rest.gone_on; whole = rest.whole }

pub returns : goal.returns
returns c =
    let inv = c.loop-next.invariant in
    record { whole = inv.whole c.in_default.is; gone_on = rw c.in_default.is at inv.gone_on }
