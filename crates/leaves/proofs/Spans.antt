-- Bytes copied part by part: a byte or a block at a time, and at the end a block over bytes that stand already.
use Prim.Native.Nat.{ℕ, zero, suc, ◌+◌, ◌-◌, ◌≤◌, ◌<◌}
use mathlib.Core.Path.{◌≡◌, refl, sym, ◌∙◌}
use mathlib.Core.List.{List, [], ◌∷◌}
use native.Mathlib.Nat.{add-zero}
use native.Mathlib.Omega.{arith}
use lib.ListN.{length, take, drop, get_or, set, length-drop, take-append-drop}
use lib.Seq.{sets, take_all, length-take-le, drop-cons, drop-drop, set-set, set_comm, length-sets, get_or-take, get_or-drop}
use Rattle.format.specs.Rows.{span_of}
use Rattle.format.proofs.Lists.{length-span}
use Rattle.leaves.proofs.Stores.{stores}

-- a byte stored below a list's place, after the list or before it
set-sets : (out : List ℕ) (p q b : ℕ) (x : List ℕ) → p < q → set (sets out q x) p b ≡ sets (set out p b) q x
set-sets out p q b [] h = refl
set-sets out p q b (a ∷ x) h = set-sets (set out q a) p (suc q) b x (omega arith) ∙ rw (set_comm out q p a b (λ e. omega arith))

-- a list stored over its own end
over : (out : List ℕ) (p k : ℕ) (x : List ℕ) → sets (sets out (p + k) (drop k x)) p x ≡ sets out p x
over out p zero [] = refl
over out p (suc k) [] = refl
over out p zero (b ∷ x) =
    rw (add-zero p, set-sets (set out p b) p (suc p) b x (omega arith), set-set out p b b)
    (rw (add-zero (suc p)) at (over (set out p b) (suc p) zero x))
over out p (suc k) (b ∷ x) =
    let to : p + suc k ≡ suc p + k = omega arith in
    rw (to, set-sets out p (suc p + k) b (drop k x) (omega arith)) (over (set out p b) (suc p) k x)

-- a list's end stored over the list
again : (out : List ℕ) (at d : ℕ) (x : List ℕ) → sets (sets out at x) (at + d) (drop d x) ≡ sets out at x
again out at zero x = rw (add-zero at) (rw (add-zero at) at (over out at zero x))
again out at (suc d) [] = refl
again out at (suc d) (b ∷ x) = let to : at + suc d ≡ suc at + d = omega arith in rw to (again (set out at b) (suc at) d x)

module _ (x : List ℕ) (at : ℕ) (first : List ℕ) where
  -- i bytes of x are copied: what is left of x, stored into the output as it is, is x stored into the output as it was at first
  pub record Copying (out : List ℕ) (i : ℕ) : Type 0 where
    pub same : length out ≡ length first
    pub left : sets out (at + i) (drop i x) ≡ sets first at x

  pub begins : Copying first 0
  begins = record { same = refl; left = rw (add-zero at) }

  module _ {out : List ℕ} {i : ℕ} (c : Copying out i) where
    -- a block more
    pub copies : (w : ℕ) {out' : List ℕ} → i + w ≤ length x → out' ≡ sets out (at + i) (take w (drop i x)) → Copying out' (i + w)
    copies w h e =
        let block : List ℕ = take w (drop i x) in
        let size : length block ≡ w = length-take-le w (drop i x) (rw (length-drop i x) (omega arith)) in
        let to : at + (i + w) ≡ at + i + length block = omega (arith, size) in
        record {
          same = rw e (length-sets out (at + i) block) ∙ c.same;
          left = rw (e, to, ← drop-drop w i x, stores out (at + i) block (drop w (drop i x)), take-append-drop w (drop i x)) c.left;
        }

    -- a byte more
    copies_one : {p b : ℕ} → p ≡ at + i → b ≡ get_or x i 0 → i < length x → Copying (set out p b) (i + 1)
    copies_one e f h = copies 1 (omega arith) (rw (e, f, drop-cons x i 0 h))

    -- the last block, from d on, is stored over bytes that stand already
    pub ends-over : (d w : ℕ) {out' : List ℕ} → d ≤ i → length x ≡ d + w → out' ≡ sets out (at + d) (take w (drop d x)) → out' ≡ sets first at x
    ends-over d w h n e =
        let k : ℕ = i - d in
        let on : d + k ≡ i = omega arith in
        let to : at + d + k ≡ at + i = omega arith in
        let rest : length (drop d x) ≤ w = rw (length-drop d x) (omega arith) in
        let stored = rw (to, drop-drop k d x, on, c.left, again first at d x) at (over out (at + d) k (drop d x)) in
        e ∙ rw (take_all w (drop d x) rest) (sym stored)

-- a span
module _ (message : List ℕ) (start n : ℕ) where
  abbrev span : List ℕ
  span = span_of message start n

  -- its bytes, as they stand in the message
  byte_of : (i : ℕ) → i < n → get_or message (start + i) 0 ≡ get_or span i 0
  byte_of i h = rw (get_or-take n (drop start message) i 0 h, get_or-drop start message i 0)

  -- it lies in the message, from which it is copied
  module _ (inside : start + n ≤ length message) (at : ℕ) (first : List ℕ) {out : List ℕ} {i : ℕ} (c : Copying span at first out i) where
    pub copies_byte : {p : ℕ} → p ≡ at + i → i < n → Copying span at first (set out p (get_or message (start + i) 0)) (i + 1)
    copies_byte e h = copies_one span at first c e (byte_of i h) (rw (length-span message start n inside) h)
