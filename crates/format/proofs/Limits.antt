-- What the limits do: they only ever refuse with 12, 13 or 14; with enough room they change nothing; what is accepted has room.
use Prim.Native.Nat.{ℕ, zero, suc, ◌+◌, ◌*◌, ◌≤◌}
use mathlib.Core.Path.{◌≡◌, refl, subst}
use mathlib.Core.List.{List, [], ◌∷◌}
use native.Mathlib.Omega.{arith}
use lib.ListN.{length}
use borrow.Author.Tests.{ltb-false}
use Rattle.format.specs.Lex.{lex}
use Rattle.format.specs.Machine as M
use Rattle.format.specs.Machine.{Values, Machine, Limits, Step, Outcome, Result, refuse, go, finish, refused, accepted, run, run_free}
use Rattle.format.proofs.Items.{lex-ok}
use Rattle.format.proofs.Moves.{move}
use Rattle.format.proofs.Growth.{StepAdds, adds}

-- the numbers that say no room
abbrev pub NoRoom : ℕ → Type 0
NoRoom n = (12 ≤ n) × (n ≤ 14)

module _ (𝒱 : Values) (lim : Limits) where
  -- an answer under limits, beside the answer without any
  pub data Under : Outcome (Result 𝒱) → Outcome 𝒱.Value → Type 0 where
    refuses : (n p : ℕ) → Under (refused n p) (refused n p)
    accepts : (k : ℕ) (res : Result 𝒱) → Under (accepted k res) (accepted k res.root)
    short : (n p : ℕ) {b : Outcome 𝒱.Value} → NoRoom n → Under (refused n p) b

  follow-under : (at used : ℕ) (next : ℕ → ℕ → Machine 𝒱 → Outcome (Result 𝒱)) (end : 𝒱.Value → Outcome (Result 𝒱))
      (next' : ℕ → ℕ → Machine 𝒱 → Outcome 𝒱.Value) (end' : 𝒱.Value → Outcome 𝒱.Value)
      → ((k w : ℕ) (m : Machine 𝒱) → Under (next k w m) (next' k w m)) → ((v : 𝒱.Value) → Under (end v) (end' v))
      → (s : Step 𝒱) → Under (M.follow 𝒱 (M.bounded 𝒱 lim at used s) next end) (M.follow 𝒱 s next' end')
  unfolding M.follow M.bounded
  follow-under at used next end next' end' f g s = grind (arith, refuses, short, f, g)

  under-from : (s : List ℕ) (skip at used : ℕ) (m : Machine 𝒱) → Under (M.run_from 𝒱 lim s skip at used m) (M.run_free_from 𝒱 s skip at m)
  unfolding M.run_from M.run_free_from
  under-from [] skip at used m = refuses 3 at
  under-from (c ∷ r) (suc k) at used m = under-from r k (suc at) used m
  under-from (c ∷ r) zero at used m =
      follow-under at used _ _ _ _ (λ k w m'. under-from r k (suc at) (used + w) m') (λ v. accepts (suc at) _) (M.step 𝒱 at r m (lex c r))

  pub under-limits : (message : List ℕ) → Under (run 𝒱 lim message) (run_free 𝒱 message)
  unfolding run run_free
  under-limits message = under-from message 0 0 0 (M.start 𝒱)

  -- a message accepted under limits is accepted without, with the same value
  pub accepted-free : (message : List ℕ) (k : ℕ) (res : Result 𝒱) → run 𝒱 lim message ≡ accepted k res → run_free 𝒱 message ≡ accepted k res.root
  accepted-free message k res e = grind (arith, under-limits message)

  -- room for all that the bytes s can ask
  record Room (used : ℕ) (m : Machine 𝒱) (s : List ℕ) : Type 0 where
    rows : used + length m.stack + 2 * length s ≤ lim.rows
    depth : length m.stack + length s ≤ lim.stack
    marks : length m.marks + length s ≤ lim.marks

  -- an answer under limits, without the rows
  unfoldable pub value_only : Outcome (Result 𝒱) → Outcome 𝒱.Value
  value_only (refused n p) = refused n p
  value_only (accepted k res) = accepted k res.root

  follow-free : (at used c : ℕ) (r : List ℕ) (m : Machine 𝒱) (next : ℕ → ℕ → Machine 𝒱 → Outcome (Result 𝒱)) (end : 𝒱.Value → Outcome (Result 𝒱))
      (next' : ℕ → ℕ → Machine 𝒱 → Outcome 𝒱.Value) (end' : 𝒱.Value → Outcome 𝒱.Value) → Room used m (c ∷ r)
      → ((k w : ℕ) (m' : Machine 𝒱) → Room (used + w) m' r → value_only (next k w m') ≡ next' k w m') → ((v : 𝒱.Value) → value_only (end v) ≡ end' v)
      → (s : Step 𝒱) → StepAdds 𝒱 m s → value_only (M.follow 𝒱 (M.bounded 𝒱 lim at used s) next end) ≡ M.follow 𝒱 s next' end'
  unfolding M.follow M.bounded value_only
  follow-free at used c r m next end next' end' h f g s a = grind (arith, f, g)

  free-from : (s : List ℕ) (skip at used : ℕ) (m : Machine 𝒱) → Room used m s → value_only (M.run_from 𝒱 lim s skip at used m) ≡ M.run_free_from 𝒱 s skip at m
  unfolding M.run_from M.run_free_from value_only
  free-from [] skip at used m h = refl
  free-from (c ∷ r) (suc k) at used m h = free-from r k (suc at) used m (omega arith)
  free-from (c ∷ r) zero at used m h =
      follow-free at used c r m _ _ _ _ h (λ k w m' h'. free-from r k (suc at) (used + w) m' h') (λ v. refl) _
      (adds 𝒱 (M.step 𝒱 at r m (lex c r)) (move 𝒱 at r m (lex c r) (lex-ok c r)))

  -- with room for twice the bytes in rows, and for the bytes in stack and marks, the limits change nothing
  pub enough-room : (message : List ℕ) → 2 * length message ≤ lim.rows → length message ≤ lim.stack → length message ≤ lim.marks
      → value_only (run 𝒱 lim message) ≡ run_free 𝒱 message
  unfolding run run_free M.start
  enough-room message a b c = free-from message 0 0 0 (M.start 𝒱) (omega arith)

  -- an accepted message's rows have room
  abbrev Holds : Outcome (Result 𝒱) → Type 0
  Holds (refused n p) = Unit {0}
  Holds (accepted k res) = res.used ≤ lim.rows

  follow-holds : (at used : ℕ) (next : ℕ → ℕ → Machine 𝒱 → Outcome (Result 𝒱)) (end : 𝒱.Value → Outcome (Result 𝒱))
      → ((k w : ℕ) (m : Machine 𝒱) → used + w ≤ lim.rows → Holds (next k w m)) → ((v : 𝒱.Value) → Holds (end v))
      → (s : Step 𝒱) → Holds (M.follow 𝒱 (M.bounded 𝒱 lim at used s) next end)
  unfolding M.follow M.bounded
  follow-holds at used next end f g s = grind (arith, f, g, ltb-false lim.rows)

  holds_rows : (s : List ℕ) (skip at used : ℕ) (m : Machine 𝒱) → used ≤ lim.rows → Holds (M.run_from 𝒱 lim s skip at used m)
  unfolding M.run_from
  holds_rows [] skip at used m h = tt
  holds_rows (c ∷ r) (suc k) at used m h = holds_rows r k (suc at) used m h
  holds_rows (c ∷ r) zero at used m h = follow-holds at used _ _ (λ k w m' h'. holds_rows r k (suc at) (used + w) m' h') (λ v. h) (M.step 𝒱 at r m (lex c r))

  pub rows_fit : (message : List ℕ) (consumed : ℕ) (res : Result 𝒱) → run 𝒱 lim message ≡ accepted consumed res → res.used ≤ lim.rows
  unfolding run
  rows_fit message consumed res e = subst Holds e (holds_rows message 0 0 0 (M.start 𝒱) (omega arith))
