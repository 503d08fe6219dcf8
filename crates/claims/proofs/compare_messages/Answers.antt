-- `claims::compare_messages` meets its contract: what `decoder::decode` promises, twice, and what `comparison::compare` promises.
use mathlib.Core.Path.{sym, ◌∙◌}
use Rattle.std.proofs.lemmas.Result.{err_from_is_err_and}
use Rattle.demands.specs.declared.NotCompared.TheVariants.{First, Second}
use Rattle.demands.proofs.Errors.{replaced, value, error}
use Rattle.demands.proofs.Demand3.{first-refused, second-refused, both-accepted}
use Rattle.claims.proofs.compare_messages.Goals as goal

pub returns-in_err-a : goal.returns-in_err-a
returns-in_err-a c =
    let exit = err_from_is_err_and c.from_residual.result c.from_residual.ensures.1 in
    let first = error First _ _ (sym (replaced First _ _ c.map_err.ensures.cases (λ e d made. made)) ∙ c.in_err-a.was) in
    let told = first-refused _ _ _ _ _ _ _ c.decode.ensures _ first.1.0 in
    record { value = rw (exit.1, exit.2, first.1.1) told.0; buffers_after = told.1 }

pub returns-in_err-b : goal.returns-in_err-b
returns-in_err-b c =
    let exit = err_from_is_err_and c.from_residual-in_err-b.result c.from_residual-in_err-b.ensures.1 in
    let first = value First _ _ (sym (replaced First _ _ c.map_err.ensures.cases (λ e d made. made)) ∙ c.in_ok-a.was) in
    let second = error Second _ _ (sym (replaced Second _ _ c.map_err-2.ensures.cases (λ e d made. made)) ∙ c.in_err-b.was) in
    let told = second-refused _ _ _ _ _ _ _ c.decode.ensures _ first _ _ c.decode-2.ensures _ second.1.0 in
    record { value = rw (exit.1, exit.2, second.1.1) told.0; buffers_after = told.1 }

pub returns : goal.returns
returns c =
    let first = value First _ _ (sym (replaced First _ _ c.map_err.ensures.cases (λ e d made. made)) ∙ c.in_ok-a.was) in
    let second = value Second _ _ (sym (replaced Second _ _ c.map_err-2.ensures.cases (λ e d made. made)) ∙ c.in_ok-b.was) in
    let a = c.decoded.ensures in
    let b = c.decoded-2.ensures in
    let compared = rw (a.0, a.1, a.2, a.3, b.0, b.1, b.2, b.3) at c.compare.ensures in
    let told = both-accepted _ _ _ _ _ _ _ c.decode.ensures _ first _ _ c.decode-2.ensures _ second _ _ compared in
    record { value = rw c.or.ensures told.0; buffers_after = told.1 }
