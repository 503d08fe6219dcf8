-- What an item's turn makes of the run: the machine goes on and all that holds before an item holds again, or the run is over.
use Prim.Native.Nat.{ℕ, suc, ◌+◌, ◌≤◌, ◌<◌}
use mathlib.Core.Path.{◌≡◌, refl, ap, sym, subst, ◌∙◌}
use mathlib.Core.Bool.{Bool, true, false, cond}
use mathlib.Core.Option.{none}
use mathlib.Core.List.{List, ◌∷◌}
use native.Mathlib.Omega.{arith}
use lib.ListN.{length, drop, get_or, length-drop}
use lib.Seq.{drop-drop}
use lib.Dec.{ltb}
use borrow.Author.Tests.{ltb-false}
use Rattle.format.specs.Lex.{lex}
use Rattle.format.specs.Machine as M
use Rattle.format.specs.Machine.{Machine, Limits, Step, Outcome, Result, refuse, go, finish, refused, accepted, bounded, step, follow, run_from}
use Rattle.format.specs.Rows.{row_values, rows_of}
use Rattle.format.specs.Answer.{Tables, zeroed, limits_of, rows_in}
use Rattle.format.specs.Number.{number_of}
use Rattle.format.specs.declared.refusal.Refused.{Refused}
use Rattle.format.proofs.Items.{lex-ok}
use Rattle.format.proofs.Moves as Mv
use Rattle.format.proofs.Moves.{move, Inside, inside}
use Rattle.format.proofs.SoundRows.{Kept, Accepted, keeps, start-kept}
use Rattle.format.proofs.Decoded.{rows_in_lem}
use Rattle.format.proofs.TableRows.{length-rows}
use Rattle.table.specs.Words.{last_first}
use Rattle.table.proofs.Rows.{get_d_zeros}
use Rattle.machine.specs.Held.{State, ends, register_in, machine_of, going, refusing, after, limited, taken}
use Rattle.decoder.proofs.Within.{Within, skipped}

-- a test of room that did not refuse
let_pass : (c : Bool) (n p : ℕ) (x : Step row_values) (k w : ℕ) (m : Machine row_values) → cond c (refuse n p) x ≡ go k w m → (c ≡ false) × (x ≡ go k w m)
let_pass true n p x k w m e = let z : ◌≡◌ {A = ℕ} 0 1 = cc in absurd (omega arith)
let_pass false n p x k w m e = (refl, e)

module _ (lim : Limits) (at used : ℕ) where
  -- a step that the limits let go on
  went : (x : Step row_values) (k w : ℕ) (m : Machine row_values) → bounded row_values lim at used x ≡ go k w m → (x ≡ go k w m) × Within lim (used + w) m
  unfolding bounded
  went (refuse n p) k w m e = let z : ◌≡◌ {A = ℕ} 0 1 = cc in absurd (omega arith)
  went (finish v) k w m e = let z : ◌≡◌ {A = ℕ} 0 1 = cc in absurd (omega arith)
  went (go k' w' m') k w m e =
      let a = let_pass (ltb lim.rows (used + w')) 12 at _ k w m e in
      let b = let_pass (ltb lim.stack (length m'.stack)) 13 at _ k w m a.1 in
      let c = let_pass (ltb lim.marks (length m'.marks)) 14 at _ k w m b.1 in
      let rows : w' ≡ w = cc c.1 in
      let same : m' ≡ m = cc c.1 in (
        c.1,
        record {
          rows = rw (← rows) (ltb-false _ _ a.0);
          stack = rw (← same) (ltb-false _ _ b.0);
          marks = rw (← same) (ltb-false _ _ c.0);
        },
      )

-- an answer that goes on, read off the machine's step
record Went (t : Tables) (s : State) (t' : Tables) (s' : State) (x : Step row_values) : Type 0 where
  skip : ℕ
  made : ℕ
  machine : Machine row_values
  is : x ≡ go skip made machine
  at : s'.at.0 ≡ suc s.at.0 + skip
  used : s'.next.0 ≡ s.next.0 + made
  stack : last_first t'.stack s'.depth.0 ≡ machine.stack
  marks : last_first t'.marks s'.marks ≡ machine.marks
  registers : register_in t'.registers ≡ machine.registers
  rows : rows_in t'.rows (rows_of s'.next.0 t'.rows) ≡ rows_in t.rows machine.memory

goes_on : (t : Tables) (s : State) (t' : Tables) (s' : State) (x : Step row_values) → going s' t' ≡ after t s x → Went t s t' s' x
unfolding going after
goes_on t s t' s' (refuse n p) e = let z : ◌≡◌ {A = ℕ} 0 1 = cc in absurd (omega arith)
goes_on t s t' s' (finish v) e = let z : ◌≡◌ {A = ℕ} 0 1 = cc in absurd (omega arith)
goes_on t s t' s' (go k w m) e = record { skip = k; made = w; machine = m; is = refl; at = cc; used = cc; stack = cc; marks = cc; registers = cc; rows = cc }

stops_at : (t : Tables) (s : State) (t' : Tables) (r : Refused) (x : Step row_values) → refusing r t' ≡ after t s x → x ≡ refuse (number_of r.refusal) r.place.0
unfolding going after
stops_at t s t' r (refuse n p) e =
    let number : number_of r.refusal ≡ n = cc in
    let place : r.place.0 ≡ p = cc in
    rw (number, place) refl
stops_at t s t' r (finish v) e = let z : ◌≡◌ {A = ℕ} 0 1 = cc in absurd (omega arith)
stops_at t s t' r (go k w m) e = let z : ◌≡◌ {A = ℕ} 0 1 = cc in absurd (omega arith)

ends_with : (t : Tables) (s : State) (t' : Tables) (root used : ℕ) (x : Step row_values) → ends root used t' ≡ after t s x → (x ≡ finish root) × (used ≡ s.next.0) × (t' ≡ t)
unfolding going after
ends_with t s t' root used (refuse n p) e = let z : ◌≡◌ {A = ℕ} 0 1 = cc in absurd (omega arith)
ends_with t s t' root used (finish v) e =
    let same : root ≡ v = cc in
    let count : used ≡ s.next.0 = cc in
    let kept : t' ≡ t = cc in
    (rw same refl, count, kept)
ends_with t s t' root used (go k w m) e = let z : ◌≡◌ {A = ℕ} 0 1 = cc in absurd (omega arith)

-- all that holds before the item at a state's place, of which `bytes` are left of the message
pub record Before (message : List ℕ) (t : Tables) (s : State) : Type 0 where
  pub kept : Kept message s.at.0 (drop s.at.0 message) s.next.0 (machine_of t s)
  pub inside : s.at.0 ≤ length message

module _ (message : List ℕ) (t t' : Tables) (s : State) (b : ℕ) (before : Before message t s) (here : drop s.at.0 message ≡ b ∷ drop (suc s.at.0) message) where
  abbrev rest : List ℕ
  rest = drop (suc s.at.0) message

  abbrev stepped : Step row_values
  stepped = step row_values s.at.0 rest (machine_of t s) (lex b rest)

  abbrev limits : Limits
  limits = limits_of t

  -- the run from here
  abbrev pub ran : Outcome (Result row_values)
  ran = run_from row_values limits (drop s.at.0 message) 0 s.at.0 s.next.0 (machine_of t s)

  pub refuses : (r : Refused) → refusing r t' ≡ taken t s rest (lex b rest) → ran ≡ refused (number_of r.refusal) r.place.0
  unfolding taken limited run_from follow
  refuses r e = rw (here, stops_at t s t' r (bounded row_values limits s.at.0 s.next.0 stepped) e) refl

  pub accepts : (root used : ℕ) → ends root used t' ≡ taken t s rest (lex b rest)
      → (ran ≡ accepted (suc s.at.0) (record { used = used; root = root; memory = (machine_of t s).memory })) × (used ≡ s.next.0) × (t'.rows ≡ t.rows)
  unfolding taken limited run_from follow
  accepts root used e =
      let x = ends_with t s t' root used (bounded row_values limits s.at.0 s.next.0 stepped) e in
      (rw (here, x.0, x.1) refl, x.1, ap (λ (u : Tables). u.rows) x.2)

  -- what holds after it
  pub record After (s' : State) : Type 0 where
    pub before' : Before message t' s'
    pub later : s.at.0 < s'.at.0
    pub same-run : ran ≡ run_from row_values limits (drop s'.at.0 message) 0 s'.at.0 s'.next.0 (machine_of t' s')

  module _ (s' : State) (on : Went t s t' s' (bounded row_values limits s.at.0 s.next.0 stepped)) where
    step_went : (stepped ≡ go on.skip on.made on.machine) × Within limits (s.next.0 + on.made) on.machine
    step_went = went limits s.at.0 s.next.0 stepped on.skip on.made on.machine on.is

    moved : Mv.Move row_values s.at.0 rest (machine_of t s) stepped
    moved = move row_values s.at.0 rest (machine_of t s) (lex b rest) (lex-ok b rest)

    kept_on : Kept message (suc s.at.0) rest (s.next.0 + on.made) on.machine
    kept_on =
        subst (Mv.Next row_values limits (Kept message) (Accepted message) s.at.0 rest s.next.0 (machine_of t s)) step_went.0
        (keeps message s.at.0 b rest s.next.0 (machine_of t s) (subst (λ (l : List ℕ). Kept message s.at.0 l s.next.0 (machine_of t s)) here before.kept) limits stepped moved)

    skip-inside : on.skip ≤ length rest
    skip-inside = subst (Inside row_values s.at.0 rest (machine_of t s)) step_went.0 (inside row_values s.at.0 rest (machine_of t s) stepped moved)

    count : length on.machine.memory ≡ s'.next.0
    count = kept_on.count ∙ sym on.used

    memory : rows_of s'.next.0 t'.rows ≡ on.machine.memory
    memory =
        let words = t'.rows in
        let mem = rows_of s'.next.0 words in
        let found : rows_of s'.next.0 (rows_in words mem) ≡ mem = rw (length-rows s'.next.0 words) at (rows_in_lem words mem) in
        sym found ∙ ap (rows_of s'.next.0) on.rows ∙ rw (← count) (rows_in_lem t.rows on.machine.memory)

    held : machine_of t' s' ≡ on.machine
    unfolding machine_of
    held = rw (on.stack, on.marks, on.registers, memory) refl

    after_on : After s'
    unfolding run_from follow
    after_on =
        let place : suc s.at.0 + on.skip ≡ s'.at.0 = sym on.at in
        let left : drop on.skip rest ≡ drop s'.at.0 message = drop-drop on.skip (suc s.at.0) message ∙ ap (λ (n : ℕ). drop n message) place in
        record {
          before' = record {
            kept = rw held (record { here = refl; sound = kept_on.sound; count = count; stack = kept_on.stack; registers = kept_on.registers });
            inside = omega (arith, skip-inside, length-drop (suc s.at.0) message, place, ap length here, length-drop s.at.0 message);
          };
          later = omega (arith, place);
          same-run =
              rw (here, on.is, held, ← left, on.at, on.used)
              (skipped limits on.skip rest (suc s.at.0) (s.next.0 + on.made) on.machine skip-inside);
        }

  pub goes_after : (s' : State) → going s' t' ≡ taken t s rest (lex b rest) → After s'
  unfolding taken limited
  goes_after s' e = after_on s' (goes_on t s t' s' _ e)

-- at the start
abbrev pub start_state : State
start_state = record { at = record { 0 = 0 }; next = record { 0 = 0 }; depth = record { 0 = 0 }; marks = 0 }

module _ (t : Tables) (registers : t.registers ≡ zeroed t.registers) where
  -- every register is empty
  empty : register_in t.registers ≡ (λ (x : ℕ). none)
  unfolding register_in zeroed
  empty = λ i x. at x i
    where
      at : (x : ℕ) → register_in t.registers x ≡ none
      at x = rw (registers, get_d_zeros (length t.registers) x) refl

  pub start-machine : machine_of t start_state ≡ M.start row_values
  unfolding machine_of last_first rows_of M.start
  start-machine = rw empty refl

  pub all-empty : (x : ℕ) → get_or t.registers x 0 ≤ 0
  unfolding zeroed
  all-empty x = rw (registers, get_d_zeros (length t.registers) x) (omega arith)

  pub start-before : (message : List ℕ) → Before message t start_state
  start-before message = record { kept = rw start-machine (start-kept message); inside = omega arith }
