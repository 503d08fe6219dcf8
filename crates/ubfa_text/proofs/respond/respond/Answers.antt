-- The line, by what `decode` promises and what `write` promises.
use mathlib.Core.Path.{◌≡◌}
use Rattle.std.proofs.Common.{rules}
use Rattle.std.proofs.lemmas.Result.{err_from_is_err_and}
use Rattle.demands.proofs.Errors.{with_error, replaced}
use Rattle.ubfa_text.specs.Response.{program_tables}
use Rattle.ubfa_text.proofs.Lines.{unwritten, scratch-enough, refused-line, accepted-line}
use Rattle.ubfa_text.proofs.respond.respond.Goals as goal

pub returns-in_err-read-clause-output_after : goal.returns-in_err-read-clause-output_after
unfolding program_tables
returns-in_err-read-clause-output_after c =
    let exit = err_from_is_err_and c.from_residual.result c.from_residual.ensures.1 in
    rw (exit.1, exit.2) (refused-line _ _ _ _ c.decode.ensures _ c.in_err-read.was _ _)

pub returns : goal.returns
unfolding program_tables
returns c =
    let same : c.map_err.result ≡ with_error unwritten c.write.result = replaced unwritten _ _ c.map_err.ensures.cases (λ e d made. search rules) in
    let told = accepted-line _ _ _ _ c.decode.ensures _ c.in_ok-read.was _ scratch-enough _ _ _ _ c.write.ensures in
    record { output_after = rw same told.0; in_output = rw same told.1 }
