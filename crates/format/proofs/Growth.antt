-- What one item may add to the machine, by its move.
use Prim.Native.Nat.{ℕ, ◌+◌, ◌≤◌}
use mathlib.Core.Path.{◌≡◌, ap}
use mathlib.Core.List.{List}
use native.Mathlib.Omega.{arith}
use lib.ListN.{length, length-drop}
use Rattle.format.specs.Machine as M
use Rattle.format.specs.Machine.{Values, Machine, Shape, Step, refuse, go, finish}
use Rattle.format.proofs.Moves as Mv
use Rattle.format.proofs.Moves.{Move, Making, MachineNumber}

module _ (𝒱 : Values) where
  -- the stack that a new value comes on is no deeper than before
  making_depth : {at : ℕ} {r : List ℕ} {m : Machine 𝒱} {shape : Shape 𝒱.Value} {st : List 𝒱.Value} → Making 𝒱 at r m shape st → length st ≤ length m.stack
  making_depth (Mv.binaries n v p i h) = omega (arith, ap length p.splits)
  making_depth (Mv.conses v l p q t) = omega (arith, ap length p.splits, ap length q.splits)
  making_depth (Mv.tags k v p h) = omega (arith, ap length p.splits)
  making_depth _ = omega arith

  -- what one item may add: two in rows and values together, one value, one mark
  pub record Adds (m : Machine 𝒱) (w : ℕ) (m' : Machine 𝒱) : Type 0 where
    pub rows : w + length m'.stack ≤ length m.stack + 2
    pub depth : length m'.stack ≤ length m.stack + 1
    pub marks : length m'.marks ≤ length m.marks + 1

  abbrev pub StepAdds : Machine 𝒱 → Step 𝒱 → Type 0
  StepAdds m (refuse n p) = MachineNumber n
  StepAdds m (go k w m') = Adds m w m'
  StepAdds m (finish v) = length m.stack ≡ 1

  pub adds : {at : ℕ} {r : List ℕ} {m : Machine 𝒱} (s : Step 𝒱) → Move 𝒱 at r m s → StepAdds m s
  unfolding M.fresh
  adds s (Mv.stops n p h g) = h
  adds s (Mv.makes k h x) = omega (arith, making_depth x)
  adds {m = m} s (Mv.tuples d k ds e l) = omega (arith, length-drop k m.stack, ap length e)
  adds s (Mv.stores x h v p) = omega (arith, ap length p.splits)
  adds s (Mv.ends v e) = ap length e
  adds s _ = omega arith
