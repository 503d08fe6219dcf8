-- `text::count::fits` meets its contract: what is still to be counted has the room that is left exactly where the whole text had the room.
use mathlib.Core.Path.{refl, ◌∙◌}
use native.Mathlib.Omega.{arith}
use Rattle.table.specs.Words.{last_first}
use Rattle.text.proofs.Counts.{begins, whole, named_fit, room-enough, too_long, next, less}
use Rattle.text.proofs.count.fits.Goals as goal

pub push-requires : goal.push-requires
unfolding last_first
push-requires c = omega arith

pub loop-row-init : goal.loop-row-init
unfolding last_first
loop-row-init c = record { same_words = refl; counting = begins _ (omega (arith, c.push.ensures.same_room)) c.push.ensures.pushed }

pub returns-then-left-n : goal.returns-then-left-n
unfolding last_first
returns-then-left-n c =
    let long = too_long c.loop-row.invariant.counting c.in-Some.ensures.popped c.load_row-words.ensures c.own_length-n.ensures c.if-left-n.true in
    rw (whole c.args.table c.push.ensures.pushed) at long

pub push_named-requires : goal.push_named-requires
push_named-requires c =
    let fit = named_fit c.loop-row.invariant.counting c.in-Some.ensures.popped c.load_row-words.ensures in
    omega (arith, fit, c.pop.ensures.same_room)

pub loop-row-smaller : goal.loop-row-smaller
loop-row-smaller c =
    less c.loop-row.invariant.counting c.in-Some.ensures.popped c.load_row-words.ensures c.own_length-n.ensures
    c.push_named.new.stack c.push_named.ensures.pushed

pub loop-row-preserved : goal.loop-row-preserved
loop-row-preserved c = record {
  same_words = c.push_named.ensures.same_words ∙ c.pop.ensures.same_words ∙ c.loop-row.invariant.same_words;
  counting = next c.loop-row.invariant.counting c.in-Some.ensures.popped c.load_row-words.ensures c.own_length-n.ensures c.push_named.new.stack
      c.push_named.ensures.pushed (c.push_named.ensures.same_room ∙ c.pop.ensures.same_room) c.if-left-n.false;
}

pub returns : goal.returns
unfolding last_first
returns c =
    let enough = room-enough c.loop-row.invariant.counting c.in_default.ensures.popped in
    rw (whole c.args.table c.push.ensures.pushed) at enough
