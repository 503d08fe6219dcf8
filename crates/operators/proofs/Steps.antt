-- Items that make no row: white space, `{`, `$`, and a push.
use Prim.Native.Nat.{ℕ, zero, suc, ◌+◌, ◌-◌, ◌≤◌, ◌<◌, min}
use mathlib.Core.Path.{◌≡◌, refl, sym}
use mathlib.Core.List.{List, ◌∷◌}
use native.Mathlib.Numerals.{add-one}
use native.Mathlib.Omega.{arith}
use lib.ListN.{length, set, get_or}
use lib.Seq.{drop-set-lt}
use borrow.Author.Tests.{ne_eqb}
use Rattle.format.specs.Bound.{stack_bound, mark_bound}
use Rattle.format.specs.Lex as L
use Rattle.format.specs.Lex.{white_item, open_item, end_item, push_item}
use Rattle.format.specs.Machine as M
use Rattle.format.specs.Machine.{Machine, refuse, bounded, step}
use Rattle.format.specs.Rows.{row_values}
use Rattle.format.specs.Answer.{Tables, tables}
use Rattle.table.specs.Words.{last_first}
use Rattle.machine.specs.Held.{State}
use Rattle.format.specs.declared.refusal.Refusal.TheVariants as Refusal
use Rattle.machine.specs.Held.{Ready, ends, stops, register_in, machine_of, going, refusing, after, limited, taken}
use Rattle.table.proofs.Rows.{pushed, length-last_first}
use Rattle.machine.proofs.Limits.{refused-step, no_stack, no_marks}
use Rattle.machine.proofs.Passes.{no_row, passes}

-- white space
pub white : (t : Tables) (s : State) → Ready t s → (r : List ℕ) → going (record { at = record { 0 = s.at.0 + 1 }; next = s.next; depth = s.depth; marks = s.marks }) t ≡ taken t s r white_item
unfolding taken step
white t s h r = passes t s h 0 (s.at.0 + 1) (omega arith)

-- a byte with no meaning
pub stray : (t : Tables) (s : State) (r : List ℕ) → refusing (record { refusal = Refusal.Stray; place = s.at }) t ≡ taken t s r (L.stray 0)
unfolding taken step going
stray t s r =
    let here : s.at.0 + 0 ≡ s.at.0 = omega arith in
    rw here (sym (refused-step t s 4 s.at.0))

-- `{`
module _ (rows stack marks registers : List ℕ) (s : State) (r : List ℕ) (h : Ready (tables rows stack marks registers) s) where
  pub open_14 : min (length marks) mark_bound ≤ s.marks → taken (tables rows stack marks registers) s r open_item ≡ stops 14 s.at.0 (tables rows stack marks registers)
  unfolding taken step machine_of
  open_14 g =
      let t = tables rows stack marks registers in
      no_marks t s 0 0 _ (omega (arith, h.used)) (omega (arith, h.depth, length-last_first stack s.depth.0)) (omega (arith, length-last_first marks s.marks))

  pub open_goes : s.marks < min (length marks) mark_bound
      → going (record { at = record { 0 = s.at.0 + 1 }; next = s.next; depth = s.depth; marks = s.marks + 1 }) (tables rows stack (set marks s.marks s.depth.0) registers)
      ≡ taken (tables rows stack marks registers) s r open_item
  unfolding taken step going machine_of
  open_goes g =
      let t = tables rows stack marks registers in
      let at : s.at.0 + 1 ≡ suc s.at.0 + 0 = omega arith in
      let top : last_first (set marks s.marks s.depth.0) (s.marks + 1) ≡ length (last_first stack s.depth.0) ∷ last_first marks s.marks =
      rw (add-one, length-last_first stack s.depth.0) (pushed marks s.marks s.depth.0 (omega arith)) in
      let more : suc (length (last_first marks s.marks)) ≡ s.marks + 1 = omega (arith, length-last_first marks s.marks) in
      rw (at, top, drop-set-lt (s.marks + 1) marks s.marks s.depth.0 (omega arith))
      (sym (no_row t s h 0 _ _ _ (length-last_first stack s.depth.0) more h.depth (omega arith)))

-- a push from a register, whose word is in hand
module _ (rows stack marks registers : List ℕ) (s : State) (r : List ℕ) (b word : ℕ) (e : word ≡ get_or registers b 0) where
  pub push_9 : word ≡ 0 → taken (tables rows stack marks registers) s r (push_item b) ≡ stops 9 s.at.0 (tables rows stack marks registers)
  unfolding taken step machine_of register_in M.push_register
  push_9 z = rw (← e, z) (refused-step (tables rows stack marks registers) s 9 s.at.0)

  module _ (h : Ready (tables rows stack marks registers) s) (full : ¬ (word ≡ 0)) where
    pub push_13 : min (length stack) stack_bound ≤ s.depth.0 → taken (tables rows stack marks registers) s r (push_item b) ≡ stops 13 s.at.0 (tables rows stack marks registers)
    unfolding taken step machine_of register_in M.push_register
    push_13 g =
        rw (← e, ne_eqb word 0 full)
        (no_stack (tables rows stack marks registers) s 0 0 _ (omega (arith, h.used)) (omega (arith, length-last_first stack s.depth.0)))

    pub push_goes : s.depth.0 < min (length stack) stack_bound
        → going (record { at = record { 0 = s.at.0 + 1 }; next = s.next; depth = record { 0 = s.depth.0 + 1 }; marks = s.marks }) (tables rows (set stack s.depth.0 (word - 1)) marks registers)
        ≡ taken (tables rows stack marks registers) s r (push_item b)
    unfolding taken step going machine_of register_in M.push_register
    push_goes g =
        let t = tables rows stack marks registers in
        let at : s.at.0 + 1 ≡ suc s.at.0 + 0 = omega arith in
        let top : last_first (set stack s.depth.0 (word - 1)) (s.depth.0 + 1) ≡ (word - 1) ∷ last_first stack s.depth.0 =
        rw add-one (pushed stack s.depth.0 (word - 1) (omega arith)) in
        let more : suc (length (last_first stack s.depth.0)) ≡ s.depth.0 + 1 = omega (arith, length-last_first stack s.depth.0) in
        rw (at, top, drop-set-lt (s.depth.0 + 1) stack s.depth.0 (word - 1) (omega arith), ← e, ne_eqb word 0 full)
        (sym (no_row t s h 0 _ _ _ more (length-last_first marks s.marks) (omega arith) h.noted))

-- `$`
module _ (rows stack marks registers : List ℕ) (s : State) (r : List ℕ) where
  marked : (n : ℕ) → ¬ (n ≡ 0) → (m : Machine row_values) → M.end_message row_values s.at.0 m (last_first marks n) ≡ refuse 10 s.at.0
  unfolding last_first M.end_message
  marked zero h m = absurd (h refl)
  marked (suc n) h m = refl

  not_one : (n : ℕ) → ¬ (n ≡ 1) → M.only_value row_values s.at.0 (last_first stack n) ≡ refuse 11 s.at.0
  unfolding last_first M.only_value
  not_one zero h = refl
  not_one (suc zero) h = absurd (h refl)
  not_one (suc (suc n)) h = refl

  pub end_10 : ¬ (s.marks ≡ 0) → taken (tables rows stack marks registers) s r end_item ≡ stops 10 s.at.0 (tables rows stack marks registers)
  unfolding taken step machine_of
  end_10 h = rw (marked s.marks h _) (refused-step (tables rows stack marks registers) s 10 s.at.0)

  pub end_11 : s.marks ≡ 0 → ¬ (s.depth.0 ≡ 1) → taken (tables rows stack marks registers) s r end_item ≡ stops 11 s.at.0 (tables rows stack marks registers)
  unfolding taken limited after bounded step machine_of M.end_message last_first
  end_11 e h = rw (e, not_one s.depth.0 h) refl

  pub end-done : s.marks ≡ 0 → s.depth.0 ≡ 1 → (root : ℕ) → root ≡ get_or stack (s.depth.0 - 1) 0 → ends root s.next.0 (tables rows stack marks registers) ≡ taken (tables rows stack marks registers) s r end_item
  unfolding taken limited after bounded step going machine_of M.end_message M.only_value last_first
  end-done e d root q = rw (q, e, d) refl
