-- An answer of `ubfa_decode` with the number 0, as `decode` answers an accepted message.
use Prim.Native.Nat.{ℕ}
use mathlib.Core.Path.{◌≡◌, ap, sym, ◌∙◌}
use mathlib.Core.List.{List}
use Rattle.std.specs.Prelude.{Ok}
use Rattle.format.specs.Answer.{Tables, decode_answer}
use Rattle.decoder.specs.Answers.{decoded_as}
use Rattle.decoder.specs.declared.Accepted.{Accepted}
use Rattle.ubfa.specs.Answers.{decoded_struct}
use Rattle.ubfa.specs.declared.UbfaDecoded.{UbfaDecoded}

-- what it says
abbrev pub accepted_of : UbfaDecoded → Accepted
accepted_of a = record { consumed = a.place; root = record { 0 = a.root }; used = a.rows }

pub as_accepted : (message : List ℕ) (t u : Tables) (a : UbfaDecoded) → decoded_struct a u ≡ decode_answer message t → a.number ≡ 0
    → decoded_as (Ok (accepted_of a)) u ≡ decode_answer message t
unfolding decoded_struct decoded_as
as_accepted message t u a promise zero = ap (λ (n : ℕ). record { number = n; place = a.place; root = a.root; used = a.rows; tables = u }) (sym zero) ∙ promise
