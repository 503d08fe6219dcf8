-- `claims::round_trip` meets its contract: what `text::write` and `decoder::decode` promise, one after the other.
use mathlib.Core.Path.{refl, sym}
use lib.Seq.{length-take-le}
use Rattle.std.proofs.lemmas.Result.{err_from_is_err_and}
use Rattle.demands.specs.Demand2.{reading}
use Rattle.demands.proofs.Demand2.{bytes_fit, trip_refused, trip_read}
use Rattle.claims.proofs.round_trip.Goals as goal

pub returns-in_err-n : goal.returns-in_err-n
returns-in_err-n c =
    let exit = err_from_is_err_and c.from_residual.result c.from_residual.ensures.1 in
    let told = trip_refused _ _ _ _ _ _ _ _ _ _ _ c.write.ensures _ c.in_err-n.was refl in
    record { answer = rw (exit.1, exit.2) told.0; buffers_after = told.1.0; limits_only = rw (exit.1, exit.2) told.1.1 }

pub slice_bounds-decode-end : goal.slice_bounds-decode-end
slice_bounds-decode-end c = bytes_fit _ _ _ _ _ _ _ _ _ c.write.ensures _ c.in_ok-n.was

pub slice_bounds-decode-end-2 : goal.slice_bounds-decode-end-2
slice_bounds-decode-end-2 c = sym (length-take-le _ _ (bytes_fit _ _ _ _ _ _ _ _ _ c.write.ensures _ c.in_ok-n.was))

pub returns-in_err-decode : goal.returns-in_err-decode
unfolding reading
returns-in_err-decode c =
    let exit = err_from_is_err_and c.from_residual-in_err-decode.result c.from_residual-in_err-decode.ensures.1 in
    let told = trip_read _ _ _ _ _ _ _ _ _ _ _ c.write.ensures _ c.in_ok-n.was _ c.decode.ensures _ (rw (exit.1, exit.2, c.in_err-decode.was) refl) in
    record { answer = told.0; buffers_after = told.1.0; limits_only = told.1.1 }

pub returns : goal.returns
unfolding reading
returns c =
    let told = trip_read _ _ _ _ _ _ _ _ _ _ _ c.write.ensures _ c.in_ok-n.was _ c.decode.ensures _ (rw c.in_ok-decode.was refl) in
    record { answer = told.0; buffers_after = told.1.0; limits_only = told.1.1 }
