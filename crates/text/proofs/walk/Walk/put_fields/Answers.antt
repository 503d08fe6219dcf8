-- `text::walk::Walk::put_fields` meets its contract.
use mathlib.Core.Path.{refl, sym, ◌∙◌}
use native.Mathlib.Omega.{arith}
use Rattle.text.specs.Way.{frames}
use Rattle.text.proofs.Frames.{above-room}
use Rattle.text.proofs.Fields.{starts, frame-fits, into, leaf-fits, next, earlier, names-room, close_fits, closed}
use Rattle.text.proofs.walk.Walk.put_fields.Goals as goal

pub read_row-words-requires : goal.read_row-words-requires
read_row-words-requires c = above-room _ _ (frames c.args.self.now) c.requires.above

pub loop-words-init : goal.loop-words-init
loop-words-init c = record {
  same = record { table = refl; stack = refl; output = refl };
  same_depth = refl;
  fielding = starts _ _ _ _ _ _ c.requires.above c.requires.tuple c.requires.room c.read_row-words.ensures;
}

pub read_row-field-requires : goal.read_row-field-requires
read_row-field-requires c = (names-room c.loop-words.invariant.fielding c.loop-words-test.true).0

pub offset_bounds-self-self : goal.offset_bounds-self-self
offset_bounds-self-self c =
    let inv = c.loop-words.invariant in
    omega (arith, frame-fits inv.fielding (rw inv.same.table at c.loop-words.self.stack_words), inv.same_depth)

pub bounds-self-self : goal.bounds-self-self
bounds-self-self c =
    let inv = c.loop-words.invariant in
    rw inv.same_depth (frame-fits inv.fielding (rw inv.same.table at c.loop-words.self.stack_words))

pub overflow_add-self : goal.overflow_add-self
overflow_add-self c =
    let inv = c.loop-words.invariant in
    omega (arith, frame-fits inv.fielding (rw inv.same.table at c.loop-words.self.stack_words), inv.same_depth)

pub returns-then-not-is_leaf-clause-gone_on : goal.returns-then-not-is_leaf-clause-gone_on
returns-then-not-is_leaf-clause-gone_on c =
    let inv = c.loop-words.invariant in
    let fits = frame-fits inv.fielding (rw inv.same.table at c.loop-words.self.stack_words) in
    let above = into inv.fielding c.loop-words-test.true c.read_row-field.ensures fits in
    record {
      same = inv.same;
      ready = rw inv.same_depth above.ready;
      part = rw inv.same_depth above.part;
    }

pub put-requires : goal.put-requires
put-requires c =
    let leaf = sym c.is_leaf.ensures ∙ c.if-not-is_leaf.false in
    let all = leaf-fits c.loop-words.invariant.fielding c.loop-words-test.true c.read_row-field.ensures leaf in
    record { inside = all.0; room = all.1 }

pub read_row-words-requires-in-loop-words : goal.read_row-words-requires-in-loop-words
read_row-words-requires-in-loop-words c = (names-room c.loop-words.invariant.fielding c.loop-words-test.true).1

pub loop-words-smaller : goal.loop-words-smaller
loop-words-smaller c = (earlier c.loop-words.invariant.fielding c.loop-words-test.true).1

pub loop-words-preserved : goal.loop-words-preserved
loop-words-preserved c =
    let inv = c.loop-words.invariant in
    let leaf = sym c.is_leaf.ensures ∙ c.if-not-is_leaf.false in
    let put = c.put.ensures in
    record {
      same = record { table = inv.same.table; stack = inv.same.stack; output = put.same ∙ inv.same.output };
      same_depth = inv.same_depth;
      fielding = next inv.fielding c.loop-words-test.true c.read_row-field.ensures leaf put.bytes put.at c.read_row-words-in-loop-words.ensures;
    }

pub put_byte-requires : goal.put_byte-requires
put_byte-requires c = close_fits c.loop-words.invariant.fielding c.loop-words-test.false

pub returns-clause-gone_on : goal.returns-clause-gone_on
returns-clause-gone_on c =
    let inv = c.loop-words.invariant in
    let put = c.put_byte.ensures in
    let done = closed inv.fielding c.loop-words-test.false put.bytes put.at in
    record {
      same = record { table = inv.same.table; stack = inv.same.stack; output = put.same ∙ inv.same.output };
      ready = rw inv.same_depth done.ready;
      part = rw inv.same_depth done.part;
    }
