-- `table::put` meets its contract: its four stores are a run of stores.
use native.Mathlib.Numerals.{add-one, add-two, add-three}
use Rattle.format.specs.Rows.{words_of}
use Rattle.table.proofs.put.Goals as goal

pub returns : goal.returns
unfolding words_of
returns c = rw (add-one, add-two, add-three)
