-- `text::store::store_text` meets its contract.
use native.Mathlib.Nat.{zero-add}
use Rattle.std.proofs.Common.{refl, rules}
use Rattle.text.proofs.Storing.{last-place, all_stored}
use Rattle.text.proofs.store.store_text.Goals as goal

pub put_all-requires-clause-room : goal.put_all-requires-clause-room
put_all-requires-clause-room c = rw zero-add c.requires.room

pub bounds-output-at : goal.bounds-output-at
bounds-output-at c =
    let all = c.put_all.ensures in
    last-place all.gone_on (rw zero-add c.requires.room) all.whole (search rules)

pub returns : goal.returns
returns c =
    let all = c.put_all.ensures in
    let stored = all_stored all.gone_on (rw zero-add c.requires.room) all.whole (search rules) refl in
    record { output_after = stored.0; value = stored.1 }
