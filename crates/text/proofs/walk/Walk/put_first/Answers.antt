-- `text::walk::Walk::put_first` meets its contract.
use mathlib.Core.Path.{refl, sym, ◌∙◌}
use native.Mathlib.Omega.{arith}
use Rattle.text.specs.Walk.{coming_next, ReadyNext}
use Rattle.text.specs.Way.{frames}
use Rattle.text.proofs.Frames.{above-room}
use Rattle.text.proofs.Entering.{starts, frame-fits, begin_fits, first-earlier, first-room, entered, leaf-fits, leaf-stored}
use Rattle.text.proofs.walk.Walk.put_first.Goals as goal

pub read_row-words-requires : goal.read_row-words-requires
read_row-words-requires c = above-room _ _ (frames c.args.self.now) c.requires.above

pub loop-n-init : goal.loop-n-init
loop-n-init c = record {
  same = record { table = refl; stack = refl; output = refl };
  entering = starts _ _ _ _ _ _ c.requires.above c.requires.room c.read_row-words.ensures;
}

pub offset_bounds-self-self : goal.offset_bounds-self-self
offset_bounds-self-self c =
    let inv = c.loop-n.invariant in
    omega (arith, frame-fits inv.entering (rw inv.same.table at c.loop-n.self.stack_words))

pub bounds-self-self : goal.bounds-self-self
bounds-self-self c =
    let inv = c.loop-n.invariant in
    frame-fits inv.entering (rw inv.same.table at c.loop-n.self.stack_words)

pub overflow_add-self : goal.overflow_add-self
overflow_add-self c =
    let inv = c.loop-n.invariant in
    omega (arith, frame-fits inv.entering (rw inv.same.table at c.loop-n.self.stack_words))

pub begin-n-requires : goal.begin-n-requires
begin-n-requires c = begin_fits c.loop-n.invariant.entering (sym c.is_leaf.ensures ∙ c.loop-n-test.true)

pub read_row-words-requires-in-loop-n : goal.read_row-words-requires-in-loop-n
read_row-words-requires-in-loop-n c =
    omega (arith, c.begin-n.ensures.first, first-room c.loop-n.invariant.entering (sym c.is_leaf.ensures ∙ c.loop-n-test.true))

pub loop-n-smaller : goal.loop-n-smaller
loop-n-smaller c = omega (arith, c.begin-n.ensures.first, first-earlier c.loop-n.invariant.entering (sym c.is_leaf.ensures ∙ c.loop-n-test.true))

pub loop-n-preserved : goal.loop-n-preserved
loop-n-preserved c =
    let inv = c.loop-n.invariant in
    let begun = c.begin-n.ensures in
    let inner = sym c.is_leaf.ensures ∙ c.loop-n-test.true in
    let words = rw inv.same.table at c.loop-n.self.stack_words in
    record {
      same = record { table = inv.same.table; stack = inv.same.stack; output = begun.wrote.same ∙ inv.same.output };
      entering = entered inv.entering inner words begun.wrote.bytes (begun.wrote.at, begun.first) c.read_row-words-in-loop-n.ensures;
    }

pub put-requires : goal.put-requires
put-requires c =
    let all = leaf-fits c.loop-n.invariant.entering (sym c.is_leaf.ensures ∙ c.loop-n-test.false) in
    record { inside = all.0; room = all.1 }

pub returns : goal.returns
unfolding ReadyNext coming_next
returns c =
    let inv = c.loop-n.invariant in
    let put = c.put.ensures in
    let all = leaf-stored inv.entering (sym c.is_leaf.ensures ∙ c.loop-n-test.false) put.bytes put.at in
    record {
      rises = all.1.1;
      gone_on = record { same = record { table = inv.same.table; stack = inv.same.stack; output = put.same ∙ inv.same.output }; ready = all.0; part = all.1.0 };
    }
