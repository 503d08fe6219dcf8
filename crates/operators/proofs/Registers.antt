-- `>` and a register byte.
use Prim.Native.Nat.{ℕ, suc, ◌+◌, ◌-◌, ◌≤◌, ◌<◌}
use mathlib.Core.Path.{◌≡◌, refl, ap, sym}
use mathlib.Core.Bool.{Bool, true, false, cond}
use mathlib.Core.Option.{none, some}
use mathlib.Core.List.{List, [], ◌∷◌}
use native.Mathlib.Omega.{arith}
use lib.ListN.{length, set, get_or}
use lib.Seq.{get_or-set_same, get_or-set_other}
use lib.Dec.{eqb}
use borrow.Author.Tests.{eqb-true, eqb-false, ne_eqb}
use Rattle.std.specs.Prelude.{Result, Ok, Err}
use Rattle.format.specs.Byte as B
use Rattle.format.specs.Byte.{has_class}
use Rattle.format.specs.Lex as L
use Rattle.format.specs.Lex.{store}
use Rattle.format.specs.Machine as M
use Rattle.format.specs.Machine.{base, step}
use Rattle.format.specs.Rows.{row_values}
use Rattle.format.specs.declared.Offset.{Offset}
use Rattle.table.specs.Words.{last_first}
use Rattle.lexer.specs.Register.{register_from}
use Rattle.lexer.specs.declared.register.Register.{Register}
use Rattle.lexer.specs.declared.register.NoRegister.{NoRegister}
use Rattle.lexer.specs.declared.register.NoRegister.TheVariants.{Stray, Ended}
use Rattle.machine.specs.Held.{State}
use Rattle.format.specs.Answer.{tables}
use Rattle.machine.specs.Held.{Ready, stops, register_in, machine_of, going, taken}
use Rattle.table.proofs.Rows.{length-last_first}
use Rattle.machine.proofs.Limits.{refused-step}
use Rattle.machine.proofs.Pops.{pop-few, pop-top}
use Rattle.machine.proofs.Passes.{no_row}

-- a register's word after a store
stored-word : (words : List ℕ) (b v : ℕ) → b < length words → register_in (set words b (v + 1)) ≡ M.set_register row_values b v (register_in words)
unfolding register_in M.set_register
stored-word words b v h = λ i x. at x i
  where
    here : (x : ℕ) (q : Bool) → eqb x b ≡ q → cond (eqb (get_or (set words b (v + 1)) x 0) 0) none (some (get_or (set words b (v + 1)) x 0 - 1)) ≡ cond q (some v) (cond (eqb (get_or words x 0) 0) none (some (get_or words x 0 - 1)))
    here x true e =
        let same : x ≡ b = eqb-true x b e in
        let w : get_or (set words b (v + 1)) x 0 ≡ v + 1 = rw same (get_or-set_same words b (v + 1) 0 h) in
        let less : v + 1 - 1 ≡ v = omega arith in
        rw (w, ne_eqb (v + 1) 0 (λ (z : v + 1 ≡ 0). omega arith), less) refl
    here x false e = rw (get_or-set_other words b x (v + 1) 0 (λ q. eqb-false x b e q)) refl

    at : (x : ℕ) → register_in (set words b (v + 1)) x ≡ M.set_register row_values b v (register_in words) x
    at x = here x (eqb x b) refl

-- what the reader answers tells the item
module _ (at : ℕ) where
  -- the reader's answer at a byte that names a register, and at one that names none
  abbrev answered : ℕ → Bool → Result Register NoRegister
  answered c q = cond q (Ok (record { name = c; end = record { 0 = suc (at + 1) } })) (Err (Stray (record { 0 = at + 1 })))

  pub named : (r : List ℕ) (b : ℕ) (end : Offset) → register_from (at + 1) r ≡ Ok (record { name = b; end = end }) → (store r ≡ L.store_item b) × (end.0 ≡ suc at + 1)
  unfolding register_from store
  named [] b end e = cc
  named (c ∷ r) b end e = by (has_class B.register c) e
    where
      by : (q : Bool) → answered c q ≡ Ok (record { name = b; end = end }) → (cond q (L.store_item c) (L.stray 1) ≡ L.store_item b) × (end.0 ≡ suc at + 1)
      by true f =
          let same : ◌≡◌ {A = Register} (record { name = c; end = record { 0 = suc (at + 1) } }) (record { name = b; end = end }) = cc in
          (ap (λ (x : Register). L.store_item x.name) same, omega (arith, ap (λ (x : Register). x.end.0) same))
      by false f = cc

  pub strayed : (r : List ℕ) (p : Offset) → register_from (at + 1) r ≡ Err (Stray p) → (store r ≡ L.stray 1) × (p.0 ≡ at + 1)
  unfolding register_from store
  strayed [] p e = cc
  strayed (c ∷ r) p e = by (has_class B.register c) e
    where
      by : (q : Bool) → answered c q ≡ Err (Stray p) → (cond q (L.store_item c) (L.stray 1) ≡ L.stray 1) × (p.0 ≡ at + 1)
      by true f = cc
      by false f =
          let here : ◌≡◌ {A = Offset} (record { 0 = at + 1 }) p = cc in
          (refl, omega (arith, ap (λ (o : Offset). o.0) here))

  pub cut_short : (r : List ℕ) → register_from (at + 1) r ≡ Err Ended → store r ≡ L.cut
  unfolding register_from store
  cut_short [] e = refl
  cut_short (c ∷ r) e = by (has_class B.register c) e
    where
      by : (q : Bool) → answered c q ≡ Err Ended → cond q (L.store_item c) (L.stray 1) ≡ L.cut
      by true f = cc
      by false f = cc

-- the item, by what the reader answers
module _ (rows stack marks registers : List ℕ) (s : State) (r : List ℕ) where
  pub store-stray : (p : Offset) → register_from (s.at.0 + 1) r ≡ Err (Stray p) → taken (tables rows stack marks registers) s r (store r) ≡ stops 4 p.0 (tables rows stack marks registers)
  unfolding taken step
  store-stray p e =
      let q = strayed s.at.0 r p e in
      rw (q.0, q.1) (refused-step (tables rows stack marks registers) s 4 (s.at.0 + 1))

  pub store-cut : (ended : ℕ) → ended ≡ suc s.at.0 + length r → register_from (s.at.0 + 1) r ≡ Err Ended
      → taken (tables rows stack marks registers) s r (store r) ≡ stops 3 ended (tables rows stack marks registers)
  unfolding taken step
  store-cut ended g e = rw (g, cut_short s.at.0 r e) (refused-step (tables rows stack marks registers) s 3 (suc s.at.0 + length r))

  module _ (b : ℕ) (end : Offset) (e : register_from (s.at.0 + 1) r ≡ Ok (record { name = b; end = end })) where
    pub store-few : s.depth.0 ≤ base (last_first marks s.marks) → taken (tables rows stack marks registers) s r (store r) ≡ stops 6 s.at.0 (tables rows stack marks registers)
    unfolding taken step machine_of
    store-few h = rw ((named s.at.0 r b end e).0, pop-few s.at.0 (last_first marks s.marks) stack _ s.depth.0 h) (refused-step (tables rows stack marks registers) s 6 s.at.0)

    pub store_goes : Ready (tables rows stack marks registers) s → b < length registers → base (last_first marks s.marks) < s.depth.0 → (v : ℕ) → v ≡ get_or stack (s.depth.0 - 1) 0
        → going (record { at = end; next = s.next; depth = record { 0 = s.depth.0 - 1 }; marks = s.marks }) (tables rows stack marks (set registers b (v + 1)))
        ≡ taken (tables rows stack marks registers) s r (store r)
    unfolding taken step going machine_of
    store_goes h l g v q =
        let t = tables rows stack marks registers in
        let n = named s.at.0 r b end e in
        rw (n.0, pop-top s.at.0 (last_first marks s.marks) stack _ s.depth.0 g, n.1, stored-word registers b v l, ← q)
        (sym (no_row t s h 1 _ _ _ (length-last_first stack (s.depth.0 - 1)) (length-last_first marks s.marks) (omega (arith, h.depth)) h.noted))
