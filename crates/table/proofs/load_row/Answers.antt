-- `table::load_row` meets its contract: a row that has room is read, and any other reads as zeros.
use Rattle.std.proofs.Common.{arith}
use Rattle.table.proofs.Rows.{row_outside}
use Rattle.table.proofs.load_row.Goals as goal

pub returns-then-row_room-n : goal.returns-then-row_room-n
returns-then-row_room-n c = let zeros = row_outside c.args.rows.now c.args.n.0 (omega arith) in cc
