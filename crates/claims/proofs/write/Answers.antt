-- `claims::write` meets its contract: demand 1 follows from what `text::write` promises.
use Rattle.demands.proofs.Demand1.{demand1_write}
use Rattle.claims.proofs.write.Goals as goal

pub returns : goal.returns
returns c = let promise = c.write.ensures in record { answer = promise; write_touches = demand1_write _ _ _ _ _ _ _ _ _ promise }
