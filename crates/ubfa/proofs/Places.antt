-- A place that `decode` answers is at most the message bound, and so fits a word.
use Prim.Native.Nat.{ℕ, ◌≤◌}
use mathlib.Core.Path.{◌≡◌}
use mathlib.Core.List.{List, []}
use native.Mathlib.Omega.{arith}
use mir.Syntax.{w32}
use mir.Val.{Fits}
use Rattle.std.specs.Prelude.{Result, Ok, Err}
use Rattle.format.specs.Answer.{Tables, decode_answer, decode_refusal, tables}
use Rattle.format.specs.Bound.{message_bound}
use Rattle.format.specs.declared.refusal.Refused.{Refused}
use Rattle.format.proofs.Places.{place-bound}
use Rattle.decoder.specs.Answers.{decoded_as}
use Rattle.decoder.specs.declared.Accepted.{Accepted}

-- the bytes consumed, or a refusal's place, whatever the tables
abbrev Placed : Result Accepted Refused → Type 0
Placed d = (t : Tables) → (decoded_as d t).place ≤ message_bound

pub answered-place : (d : Result Accepted Refused) (u : Tables) (message : List ℕ) (lent : Tables) (t : Tables) → decoded_as d u ≡ decode_answer message lent → (decoded_as d t).place ≤ message_bound
unfolding decoded_as decode_refusal
answered-place d u message lent t e = grind (arith, place-bound message lent)

pub consumed-fits : (d : Result Accepted Refused) (a : Accepted) → d ≡ Ok a → Placed d → Fits w32 a.consumed
unfolding decoded_as
consumed-fits d a e h = let most : a.consumed ≤ message_bound = (rw e at h) (tables [] [] [] []) in omega arith

pub place-fits : (d : Result Accepted Refused) (x : Refused) → d ≡ Err x → Placed d → Fits w32 x.place.0
unfolding decoded_as decode_refusal
place-fits d x e h = let most : x.place.0 ≤ message_bound = (rw e at h) (tables [] [] [] []) in omega arith
