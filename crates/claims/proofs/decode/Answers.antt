-- `claims::decode` meets its contract: the demands follow from what `decoder::decode` promises.
use Rattle.demands.proofs.Demand1.{demand1}
use Rattle.demands.proofs.Demand2.{demand2}
use Rattle.claims.proofs.decode.Goals as goal

pub returns : goal.returns
returns c =
    let promise = c.decode.ensures in
    record { answer = promise; decode_touches = demand1 _ _ _ _ promise; decode_means = demand2 _ _ _ _ promise }
