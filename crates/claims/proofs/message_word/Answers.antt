-- `claims::message_word` meets its contract: what `decoder::decode` promises, and what `words::read_word` promises.
use mathlib.Core.Path.{◌≡◌}
use Rattle.std.proofs.lemmas.Result.{err_from_is_err_and}
use Rattle.demands.specs.declared.WordRefused.TheVariants.{NoWord}
use Rattle.demands.proofs.Errors.{with_error, replaced}
use Rattle.demands.proofs.SensorWords.{not-decoded, decoded}
use Rattle.claims.proofs.message_word.Goals as goal

pub returns-in_err-read : goal.returns-in_err-read
returns-in_err-read c =
    let told = not-decoded _ _ _ _ _ c.decode.ensures _ c.in_err-read.was in
    let exit = err_from_is_err_and c.from_residual.result c.from_residual.ensures.1 in
    record { value = rw (exit.1, exit.2) told.0; tables_after = told.1 }

pub returns : goal.returns
returns c =
    let table = c.decoded.ensures in
    let told = decoded _ _ _ _ _ c.decode.ensures _ c.in_ok-read.was _ (rw (table.0, table.1, table.2, table.3) at c.read_word.ensures) in
    let same : c.map_err.result ≡ with_error NoWord c.read_word.result = replaced NoWord _ _ c.map_err.ensures.cases (λ e d made. made) in
    record { value = rw same told.0; tables_after = told.1 }
