-- `table::read_row` meets its contract: a row that has room lies within the table.
use Rattle.std.proofs.Common.{sym, arith}
use Rattle.table.proofs.Rows.{row_inside}
use Rattle.table.proofs.read_row.Goals as goal

pub returns : goal.returns
returns c = sym (row_inside _ _ (omega arith))
