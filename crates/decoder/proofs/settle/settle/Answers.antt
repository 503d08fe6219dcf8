-- `decoder::settle::settle` meets its contract: each table is cleared, the rows past those used.
use Rattle.decoder.proofs.Decodes.{settled-refused, settled-accepted}
use Rattle.decoder.proofs.settle.settle.Goals as goal

pub returns-in-Err : goal.returns-in-Err
returns-in-Err c = settled-refused _ _ _ _ _ c.clear.ensures c.clear-2.ensures c.clear-3.ensures _ c.in-Err.is c.clear-in-Err.ensures

pub returns-in-Ok : goal.returns-in-Ok
returns-in-Ok c = settled-accepted _ _ _ _ _ c.clear.ensures c.clear-2.ensures c.clear-3.ensures _ c.in-Ok.is c.clear_from.ensures
