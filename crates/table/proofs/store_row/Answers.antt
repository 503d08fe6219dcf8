-- `table::store_row` meets its contract: a row that has room lies within the table.
use Rattle.table.specs.Words.{stored_rows}
use Rattle.table.proofs.store_row.Goals as goal

pub returns : goal.returns
unfolding stored_rows
returns c = c.put.ensures
