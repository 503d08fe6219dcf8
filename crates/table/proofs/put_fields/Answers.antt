-- `table::put_fields` meets its contract: what is yet to be stored, stored into the table as it is, is what was to be stored
-- into the table at first.
use Rattle.std.proofs.Common.{◌≡◌, ◌+◌, ◌-◌, length, sym, ◌∙◌, arith}
use Rattle.std.proofs.lemmas.List.{length_push}
use Rattle.format.specs.Rows.{row_room}
use Rattle.table.proofs.Tuple as laws
use Rattle.table.proofs.put_fields.Goals as goal

pub overflow_add-n : goal.overflow_add-n
unfolding row_room
overflow_add-n c =
    let turn = laws.turn _ c.args.base.0 _ c.requires.1 _ _ _ _ (cc) c.loop-field.yielded_by _ c.next.ensures.steps _ c.in-Some.is in
    omega arith

pub put-requires : goal.put-requires
unfolding row_room
put-requires c =
    let turn = laws.turn _ c.args.base.0 _ c.requires.1 _ _ _ _ (cc) c.loop-field.yielded_by _ c.next.ensures.steps _ c.in-Some.is in
    omega arith

pub loop-field-preserved : goal.loop-field-preserved
loop-field-preserved c =
    let inv = c.loop-field.invariant in
    let stack = c.args.stack.now in
    let low = c.args.base.0 in
    let high = c.args.depth.0 in
    let k = length c.loop-field.yielded in
    let turn = laws.turn stack low high c.requires.1 _ _ _ _ (cc) c.loop-field.yielded_by _ c.next.ensures.steps _ c.in-Some.is in
    let more = length_push c.loop-field.yielded c.in-Some.field-0 in
    let below : high - (k + 1) ≡ high - k - 1 = omega arith in
    let stored = laws.field_more c.loop-field.rows stack low (high - k) c.loop-field.rest (omega arith) in
    record {
      can_next = tt;
      is_finite = tt;
      within = omega (arith, more);
      count = omega (arith, more);
      same = c.put.auto.rows ∙ inv.same;
      left = rw (c.put.ensures, more, below) (sym (rw (← turn.1) at stored) ∙ inv.left);
    }

pub returns : goal.returns
returns c =
    let done = laws.done _ c.args.base.0 _ c.requires.1 _ _ _ _ (cc) c.loop-field.yielded_by _ c.next.ensures.steps c.in-None.is in
    sym (laws.field_none _ _ _ _ _ (omega arith)) ∙ c.loop-field.invariant.left
