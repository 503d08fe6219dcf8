-- `claims::compare` meets its contract: demand 1 follows from what `comparison::compare` promises.
use Rattle.demands.proofs.Demand1.{demand1_compare}
use Rattle.claims.proofs.compare.Goals as goal

pub returns : goal.returns
returns c = let promise = c.compare.ensures in record { answer = promise; compare_touches = demand1_compare _ _ _ _ _ _ _ _ _ _ _ promise }
