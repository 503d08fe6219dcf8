-- `table::store_tuple` meets its contract: the end is stored, and then the fields after it.
use Rattle.table.proofs.Tuple as laws
use Rattle.table.proofs.store_tuple.Goals as goal

pub returns : goal.returns
returns c =
    let spare = c.default.ensures in
    laws.tuple-stored _ _ _ _ _ (rw (spare.1.0, spare.1.1.0, spare.1.1.1) at c.put.ensures) c.put_fields.ensures
