-- What `place` holds, a refusal's place or the bytes consumed, is never past the slice's end: so it is at most the message bound.
use Prim.Native.Nat.{ℕ, zero, suc, ◌+◌, ◌≤◌}
use mathlib.Core.List.{List, [], ◌∷◌}
use native.Mathlib.Omega.{arith}
use lib.ListN.{length}
use borrow.Author.Tests.{ltb-false}
use Rattle.format.specs.Answer.{Tables, over_bound, limits_of, decode_refusal, decode_result, decode_answer}
use Rattle.format.specs.Bound.{message_bound}
use Rattle.format.specs.Lex.{lex}
use Rattle.format.specs.Machine as M
use Rattle.format.specs.Machine.{Values, Machine, Limits, Step, Outcome, Result, refuse, go, finish, refused, accepted, run}
use Rattle.format.specs.Rows.{row_values}
use Rattle.format.proofs.Items.{lex-ok}
use Rattle.format.proofs.Moves.{Inside, inside, move}

module _ (𝒱 : Values) (lim : Limits) where
  abbrev pub Within : ℕ → Outcome (Result 𝒱) → Type 0
  Within end (refused n p) = p ≤ end
  Within end (accepted k res) = k ≤ end

  within-follow : (at used : ℕ) (r : List ℕ) (m : Machine 𝒱) (end : ℕ) (next : ℕ → ℕ → Machine 𝒱 → Outcome (Result 𝒱)) (last : 𝒱.Value → Outcome (Result 𝒱))
      → suc at + length r ≤ end → ((k w : ℕ) (m' : Machine 𝒱) → Within end (next k w m')) → ((v : 𝒱.Value) → Within end (last v))
      → (s : Step 𝒱) → Inside 𝒱 at r m s → Within end (M.follow 𝒱 (M.bounded 𝒱 lim at used s) next last)
  unfolding M.follow M.bounded
  within-follow at used r m end next last e f g s h = grind (arith, f, g)

  within-from : (s : List ℕ) (skip at used : ℕ) (m : Machine 𝒱) (end : ℕ) → at + length s ≤ end → Within end (M.run_from 𝒱 lim s skip at used m)
  unfolding M.run_from
  within-from [] skip at used m end e = omega arith
  within-from (c ∷ r) (suc k) at used m end e = within-from r k (suc at) used m end (omega arith)
  within-from (c ∷ r) zero at used m end e =
      within-follow at used r m end _ _ (omega arith) (λ k w m'. within-from r k (suc at) (used + w) m' end (omega arith)) (λ v. omega arith) _
      (inside 𝒱 at r m _ (move 𝒱 at r m (lex c r) (lex-ok c r)))

  pub within-message : (message : List ℕ) → Within (length message) (run 𝒱 lim message)
  unfolding M.run
  within-message message = within-from message 0 0 0 (M.start 𝒱) (length message) (omega arith)

-- the place that `decode` answers fits in a word
pub place-bound : (message : List ℕ) (t : Tables) → (decode_answer message t).place ≤ message_bound
unfolding decode_answer over_bound decode_refusal decode_result
place-bound message t = grind (arith, ltb-false message_bound (length message), within-message row_values (limits_of t) message)
