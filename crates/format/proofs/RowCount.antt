-- Theorem 6, first half: rows used never exceed twice the bytes consumed. By the same walk, a refusal's number is from 3 to 17.
use Prim.Native.Nat.{ℕ, ◌+◌, ◌*◌, ◌≤◌}
use mathlib.Core.Path.{◌≡◌, subst}
use mathlib.Core.List.{List}
use native.Mathlib.Omega.{arith}
use lib.ListN.{length}
use Rattle.format.specs.Machine as M
use Rattle.format.specs.Machine.{Values, Machine, Limits, Step, Result, refuse, go, finish, refused, accepted, run}
use Rattle.format.proofs.Moves as Mv
use Rattle.format.proofs.Moves.{MachineNumber, holds}
use Rattle.format.proofs.Growth.{adds}

module _ (𝒱 : Values) (lim : Limits) where
  -- rows made and values on the stack together are at most twice the bytes passed
  abbrev Few : ℕ → List ℕ → ℕ → Machine 𝒱 → Type 0
  Few at s used m = used + length m.stack ≤ 2 * at

  abbrev FewRows : ℕ → Result 𝒱 → Type 0
  FewRows consumed res = res.used ≤ 2 * consumed

  few : (message : List ℕ) → Mv.AtEnd 𝒱 lim Few FewRows (run 𝒱 lim message)
  unfolding M.start
  few message = holds 𝒱 lim Few FewRows (λ at c r used m h. omega arith) (λ at c r used m h s x. grind (arith, adds 𝒱 s x)) message (omega arith)

  pub few-rows : (message : List ℕ) (consumed : ℕ) (res : Result 𝒱) → run 𝒱 lim message ≡ accepted consumed res → res.used ≤ 2 * consumed
  few-rows message consumed res e = subst (Mv.AtEnd 𝒱 lim Few FewRows) e (few message)

  -- the machine refuses with no 0, 1 or 2
  pub machine-number : (message : List ℕ) (n p : ℕ) → run 𝒱 lim message ≡ refused n p → MachineNumber n
  machine-number message n p e = subst (Mv.AtEnd 𝒱 lim Few FewRows) e (few message)
