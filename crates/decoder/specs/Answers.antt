-- The paper's numbers for each case of what `decode` answers.
use Rattle.std.specs.Prelude.{Result, Ok, Err}
use Rattle.format.specs.Number.{number_of}
use Rattle.format.specs.Answer as A
use Rattle.format.specs.Answer.{Tables, decode_refusal}
use Rattle.format.specs.declared.refusal.Refused.{Refused}
use Rattle.decoder.specs.declared.Accepted.{Accepted}

-- 0, bytes consumed, root, rows used; or number, place, 0, 0; with the tables at the end
unfoldable pub decoded_as : Result Accepted Refused → Tables → A.Decoded
decoded_as (Ok a) t = record { number = 0; place = a.consumed; root = a.root.0; used = a.used; tables = t }
decoded_as (Err r) t = decode_refusal (number_of r.refusal) r.place.0 t
