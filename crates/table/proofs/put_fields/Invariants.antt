-- `table::put_fields` meets its contract: what is yet to be stored, stored into the table as it is, is what was to be stored
-- into the table at first.
use Rattle.std.proofs.Common.{◌≡◌, ◌+◌, ◌-◌, ◌≤◌, length}
use Rattle.table.proofs.Tuple.{with_fields}
use Rattle.table.proofs.put_fields.Given as goal

abbrev pub invariant-loop-field : goal.invariant-loop-field
invariant-loop-field l = record {
  can_next : (goal.iterator-loop-field).can_next l.field-iterator;
  is_finite : (goal.iterator-loop-field).is_finite l.field-iterator;
  within : l.fn.base.0 + length l.yielded ≤ l.fn.depth.0;
  count : l.rest ≡ l.fn.end.0 + length l.yielded;
  same : length l.rows ≡ length l.initial.rows;
  left : with_fields l.rows l.fn.stack l.fn.base.0 (l.fn.depth.0 - length l.yielded) l.rest
      ≡ with_fields l.initial.rows l.fn.stack l.fn.base.0 l.fn.depth.0 l.fn.end.0;
}
