-- What a step can be, each with what is known there, so that an invariant of the machine is proved move by move.
use Prim.Native.Nat.{ℕ, zero, suc, ◌+◌, ◌-◌, ◌≤◌, ◌<◌}
use Prim.Native.Char.{code}
use mathlib.Core.Path.{◌≡◌, refl}
use mathlib.Core.Bool.{true}
use mathlib.Core.Option.{Option, some}
use mathlib.Core.List.{List, [], ◌∷◌, reverse}
use native.Mathlib.Omega.{arith}
use lib.IntN.{ℤ, pos}
use lib.ListN.{length, take, drop}
use lib.Dec.{T}
use borrow.Author.Tests.{ltb-false, leb-false}
use Rattle.format.specs.Lex as L
use Rattle.format.specs.Lex.{Item, in_range, lex}
use Rattle.format.specs.Machine as M
use Rattle.format.specs.Machine.{Values, Machine, Shape, Limits, Step, Outcome, Result, base, refuse, go, finish, refused, accepted}
use Rattle.format.proofs.Items.{ItemOk, Quoted, lex-ok}

-- a refusal of the machine has a number from 3 to 17, and so is neither an acceptance nor one of the refusals before it
abbrev pub MachineNumber : ℕ → Type 0
MachineNumber n = (3 ≤ n) × (n ≤ 17)

module _ (𝒱 : Values) (at : ℕ) (r : List ℕ) (m : Machine 𝒱) where
  -- the value v popped from the stack, above the base, and the stack st under it
  pub record Popped (stack : List 𝒱.Value) (v : 𝒱.Value) (st : List 𝒱.Value) : Type 0 where
    pub splits : stack ≡ v ∷ st
    pub above : base m.marks ≤ length st

  -- the shapes of which one row is made, with the stack that the new value comes on
  pub data Making : Shape 𝒱.Value → List 𝒱.Value → Type 0 where
    integers : (z : ℤ) → T (in_range z) → Making (M.integer z) m.stack
    atoms : (k : ℕ) → Quoted (code "'") r k → Making (M.atom (suc at) (take k r)) m.stack
    strings : (k : ℕ) → Quoted (code "\"") r k → Making (M.string (suc at) (take k r)) m.stack
    binaries : (n : ℕ) (v : 𝒱.Value) {st : List 𝒱.Value} → Popped m.stack v st → 𝒱.integer_in m.memory v ≡ some (pos n) → n < length r
        → Making (M.binary (suc at) (take n r)) st
    nils : Making M.nil m.stack
    conses : (v l : 𝒱.Value) {mid st : List 𝒱.Value} → Popped m.stack v mid → Popped mid l st → 𝒱.is_list m.memory l ≡ true → Making (M.cons v l) st
    tags : (k : ℕ) (v : 𝒱.Value) {st : List 𝒱.Value} → Popped m.stack v st → Quoted (code "`") r k → Making (M.tag (suc at) (take k r) v) st

  pub data Move : Step 𝒱 → Type 0 where
    stops : (n p : ℕ) → MachineNumber n → p ≤ suc at + length r → Move (refuse n p)
    rests : (k : ℕ) → k ≤ length r → Move (go k 0 m)
    makes : (k : ℕ) → k ≤ length r → {shape : Shape 𝒱.Value} {st : List 𝒱.Value} → Making shape st → Move (go k 1 (M.fresh 𝒱 at shape st m.marks m))
    opens : Move (go 0 0 (record { stack = m.stack; marks = length m.stack ∷ m.marks; registers = m.registers; memory = m.memory }))
    tuples : (d k : ℕ) (ds : List ℕ) → m.marks ≡ d ∷ ds → d + k ≡ length m.stack
        → Move (go 0 (suc k) (M.fresh 𝒱 at (M.tuple (reverse (take k m.stack))) (drop k m.stack) ds m))
    stores : (x : ℕ) → 1 ≤ length r → (v : 𝒱.Value) {st : List 𝒱.Value} → Popped m.stack v st
        → Move (go 1 0 (record { stack = st; marks = m.marks; registers = M.set_register 𝒱 x v m.registers; memory = m.memory }))
    pushes : (x : ℕ) (v : 𝒱.Value) → m.registers x ≡ some v → Move (go 0 0 (record { stack = v ∷ m.stack; marks = m.marks; registers = m.registers; memory = m.memory }))
    ends : (v : 𝒱.Value) → m.stack ≡ v ∷ [] → Move (finish v)

  -- an item's bytes lie in the slice, and the place of its refusal there or at the end
  abbrev pub Inside : Step 𝒱 → Type 0
  Inside (refuse n p) = p ≤ suc at + length r
  Inside (go k w m') = k ≤ length r
  Inside (finish v) = Unit {0}

  pub inside : (s : Step 𝒱) → Move s → Inside s
  inside s (stops n p h g) = g
  inside s (rests k h) = h
  inside s (makes k h x) = h
  inside s (stores x h v p) = h
  inside s _ = omega arith

  pop-move : (stack : List 𝒱.Value) (next : 𝒱.Value → List 𝒱.Value → Step 𝒱)
      → ((v : 𝒱.Value) (st : List 𝒱.Value) → Popped stack v st → Move (next v st)) → Move (M.pop 𝒱 at m.marks stack next)
  unfolding M.pop
  pop-move [] next f = stops 6 at (omega arith) (omega arith)
  pop-move (v ∷ st) next f = grind (arith, stops 6 at, f v st, ltb-false (length st) (base m.marks))

  binary-move : (v : 𝒱.Value) (st : List 𝒱.Value) → Popped m.stack v st → (o : Option ℤ) → 𝒱.integer_in m.memory v ≡ o → Move (M.take_binary 𝒱 at r m st o)
  unfolding M.take_binary
  binary-move v st p o e = grind (arith, stops 3, stops 4, stops 7 at, stops 8 at, makes, binaries, leb-false (length r))

  close_move : (ds : List ℕ) → m.marks ≡ ds → Move (M.close_tuple 𝒱 at m ds)
  unfolding M.close_tuple
  close_move [] e = stops 10 at (omega arith) (omega arith)
  close_move (d ∷ ds) e = grind (arith, stops 17 at, tuples d (length m.stack - d) ds e, ltb-false (length m.stack) d)

  pub move : (i : Item) → ItemOk r i → Move (M.step 𝒱 at r m i)
  unfolding M.step M.cons_list M.push_register M.only_value M.end_message
  move L.white_item h = rests 0 (omega arith)
  move (L.comment_item k) h = rests (suc k) h
  move (L.atom_item k) h = makes (suc k) h.inside (atoms k h)
  move (L.string_item k) h = makes (suc k) h.inside (strings k h)
  move (L.tag_item k) h = pop-move m.stack _ (λ v st p. makes (suc k) h.inside (tags k v p h))
  move (L.integer_item z k) h = makes k h.1 (integers z h.0)
  move L.open_item h = opens
  move L.close_item h = close_move m.marks refl
  move L.tilde_item h = pop-move m.stack _ (λ v st p. binary-move v st p (𝒱.integer_in m.memory v) refl)
  move L.hash_item h = makes 0 (omega arith) nils
  move L.ampersand_item h = pop-move m.stack _ (λ v mid p. pop-move mid _ (λ l st q. grind (arith, stops 7 at, makes 0, conses v l p q)))
  move L.end_item h = grind (arith, stops 10 at, stops 11 at, ends)
  move (L.store_item x) h = pop-move m.stack _ (λ v st p. stores x h v p)
  move (L.push_item x) h = grind (arith, stops 9 at, pushes)
  move L.cut h = stops 3 (suc at + length r) (omega arith) (omega arith)
  move (L.stray k) h = stops 4 (at + k) (omega arith) (omega arith)
  move L.too_large h = stops 5 at (omega arith) (omega arith)

-- An invariant of offset, bytes to come, rows used and machine that every byte passed and every move keeps tells what holds of the answer.
module _ (𝒱 : Values) (lim : Limits) (Inv : ℕ → List ℕ → ℕ → Machine 𝒱 → Type 0) (End : ℕ → Result 𝒱 → Type 0) where
  -- of a step from m, with so many rows used, and of an answer
  abbrev pub Next : ℕ → List ℕ → ℕ → Machine 𝒱 → Step 𝒱 → Type 0
  Next at r used m (refuse n p) = MachineNumber n
  Next at r used m (go k w m') = Inv (suc at) r (used + w) m'
  Next at r used m (finish v) = End (suc at) (record { used = used; root = v; memory = m.memory })

  abbrev pub AtEnd : Outcome (Result 𝒱) → Type 0
  AtEnd (refused n p) = MachineNumber n
  AtEnd (accepted k res) = End k res

  module _ (at : ℕ) (r : List ℕ) (used : ℕ) (m : Machine 𝒱) where
    next-follow : (next : ℕ → ℕ → Machine 𝒱 → Outcome (Result 𝒱)) (end : 𝒱.Value → Outcome (Result 𝒱))
        → ((k w : ℕ) (m' : Machine 𝒱) → Inv (suc at) r (used + w) m' → AtEnd (next k w m'))
        → ((v : 𝒱.Value) → End (suc at) (record { used = used; root = v; memory = m.memory }) → AtEnd (end v))
        → (s : Step 𝒱) → Next at r used m s → AtEnd (M.follow 𝒱 (M.bounded 𝒱 lim at used s) next end)
    unfolding M.follow M.bounded
    next-follow next end f g s h = grind (arith, f, g)

  module _ (pass : (at c : ℕ) (r : List ℕ) (used : ℕ) (m : Machine 𝒱) → Inv at (c ∷ r) used m → Inv (suc at) r used m)
      (keeps : (at c : ℕ) (r : List ℕ) (used : ℕ) (m : Machine 𝒱) → Inv at (c ∷ r) used m → (s : Step 𝒱) → Move 𝒱 at r m s → Next at r used m s) where
    holds-from : (s : List ℕ) (skip at used : ℕ) (m : Machine 𝒱) → Inv at s used m → AtEnd (M.run_from 𝒱 lim s skip at used m)
    unfolding M.run_from
    holds-from [] skip at used m h = omega arith
    holds-from (c ∷ r) (suc k) at used m h = holds-from r k (suc at) used m (pass at c r used m h)
    holds-from (c ∷ r) zero at used m h =
        next-follow at r used m _ _ (λ k w m' h'. holds-from r k (suc at) (used + w) m' h') (λ v h'. h') _
        (keeps at c r used m h _ (move 𝒱 at r m (lex c r) (lex-ok c r)))

    pub holds : (message : List ℕ) → Inv 0 message 0 (M.start 𝒱) → AtEnd (M.run 𝒱 lim message)
    unfolding M.run
    holds message h = holds-from message 0 0 0 (M.start 𝒱) h
