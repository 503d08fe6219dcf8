-- Theorem 3: the rows of an accepted message are sound, and its root is among them.
use Prim.Native.Nat.{ℕ, suc, ◌+◌, ◌-◌, ◌≤◌, ◌<◌}
use Prim.Native.Char.{code}
use mathlib.Core.Path.{◌≡◌, refl, ap, sym, ◌∙◌, subst}
use mathlib.Core.Bool.{true, ◌&&◌}
use mathlib.Core.Option.{Option, none, some}
use mathlib.Core.List.{List, [], ◌∷◌, ◌++◌, append_assoc, append-nil, reverse}
use native.Mathlib.Omega.{arith}
use lib.ListN.{length, take, drop, length-append, length-drop, length-reverse}
use lib.Seq.{get_or-append_seam, length-take-le}
use lib.Dec.{eqb, ltb, T, lt→ltb, le→leb}
use lib.Ieee.Fits.{and_i, and_l, and_r}
use Rattle.std.proofs.lemmas.Bool.{cond_both}
use Rattle.std.proofs.lemmas.List.Elements.{All-nil, All-cons, All-head, All-tail, All-weaker, All-take, All-drop}
use Rattle.std.proofs.lemmas.List.Sorted.{All-permutation, IsPermutation-reverse}
use Rattle.std.specs.List.{All}
use Rattle.format.specs.Rows.{Row, row_values, make_rows, add, add_tuple, integer_row, span_row, nil_row, cons_row, end_row, field_row, tag_row, row_at, is_tuple_kind}
use Rattle.format.specs.Sound.{in_slice, spelled_in, sound_row, sound_rest, sound_after, sound_rows}
use Rattle.format.specs.Machine as M
use Rattle.format.specs.Machine.{Machine, Shape, Limits, Step, Result, accepted, run}
use Rattle.format.proofs.Lists.{drop-next}
use Rattle.format.proofs.Items.{Quoted}
use Rattle.format.proofs.Moves as Mv
use Rattle.format.proofs.Moves.{Move, Making, Popped, holds}

-- row numbers below n: of a stack, of a register
abbrev pub Low : ℕ → ℕ → Type 0
Low n v = v < n

abbrev pub Below : ℕ → List ℕ → Type 0
Below n = All (Low n)

abbrev pub BelowIf : ℕ → Option ℕ → Type 0
BelowIf n none = Unit {0}
BelowIf n (some v) = v < n

module _ (message : List ℕ) where
  -- a row that may come after some rows
  abbrev Fits : List Row → Row → Type 0
  Fits rows r = T (sound_row message (length rows) r && sound_rest r.kind (row_at rows r.second).kind)

  after-add : (earlier rows : List Row) (r : Row) → T (sound_after message earlier rows) → Fits (earlier ++ rows) r → T (sound_after message earlier (rows ++ (r ∷ [])))
  unfolding sound_after
  after-add earlier [] r h g = and_i (sound_row message (length earlier) r && sound_rest r.kind (row_at earlier r.second).kind) true (rw append-nil at g) tt
  after-add earlier (x ∷ rows) r h g = grind (arith, and_l, and_r, and_i, append_assoc earlier (x ∷ []) rows, after-add (earlier ++ (x ∷ [])) rows r)

  -- rows with n more, all sound, the last of them being row p .1
  record Grown (rows : List Row) (n : ℕ) (p : List Row × ℕ) : Type 0 where
    sound : T (sound_rows message p.0)
    longer : length p.0 ≡ length rows + n
    inside : p.1 < length p.0

  grown_one : (rows : List Row) (r : Row) → T (sound_rows message rows) → Fits rows r → Grown rows 1 (add rows r)
  unfolding add sound_rows
  grown_one rows r h g = record {
    sound = after-add [] rows r h g;
    longer = length-append rows (r ∷ []);
    inside = omega (arith, length-append rows (r ∷ []));
  }

  -- the rows of a tuple: the last one starts or ends a tuple
  record GrownTuple (rows : List Row) (n : ℕ) (p : List Row × ℕ) : Type 0 where
    grown : Grown rows n p
    is_tuple : T (is_tuple_kind (row_at p.0 p.1).kind)

  last-kind : (rows : List Row) (r : Row) → T (is_tuple_kind r.kind) → T (is_tuple_kind (row_at (add rows r).0 (add rows r).1).kind)
  unfolding add row_at
  last-kind rows r h = rw get_or-append_seam h

  grown-tuple : (rows : List Row) → T (sound_rows message rows) → (vs : List ℕ) → Below (length rows) vs → GrownTuple rows (suc (length vs)) (add_tuple rows vs)
  unfolding add_tuple sound_row sound_rest is_tuple_kind end_row field_row
  grown-tuple rows h [] g = record { grown = grown_one rows end_row h tt; is_tuple = last-kind rows end_row tt }
  grown-tuple rows h (v ∷ vs) g =
      let t = grown-tuple rows h vs (All-tail (Low (length rows)) v vs g) in
      let rows' = (add_tuple rows vs).0 in
      let e = (add_tuple rows vs).1 in
      let first : v < length rows' = omega (arith, All-head (Low (length rows)) v vs g, t.grown.longer) in
      let one : Grown rows' 1 (add rows' (field_row v e)) = grown_one rows' (field_row v e) t.grown.sound (search (and_i, lt→ltb, first, t.grown.inside, t.is_tuple)) in
      record {
        grown = record { sound = one.sound; longer = omega (arith, one.longer, t.grown.longer); inside = one.inside };
        is_tuple = last-kind rows' (field_row v e) tt;
      }

  -- the machine before the bytes s, with so many rows used
  pub record Kept (at : ℕ) (s : List ℕ) (used : ℕ) (m : Machine row_values) : Type 0 where
    pub here : drop at message ≡ s
    pub sound : T (sound_rows message m.memory)
    pub count : length m.memory ≡ used
    pub stack : Below (length m.memory) m.stack
    pub registers : (x : ℕ) → BelowIf (length m.memory) (m.registers x)

  pub record Accepted (consumed : ℕ) (res : Result row_values) : Type 0 where
    pub sound : T (sound_rows message res.memory)
    pub count : length res.memory ≡ res.used
    pub root : res.root < res.used

  pub pass : (at c : ℕ) (r : List ℕ) (used : ℕ) (m : Machine row_values) → Kept at (c ∷ r) used m → Kept (suc at) r used m
  pass at c r used m k = record { here = drop-next message at k.here; sound = k.sound; count = k.count; stack = k.stack; registers = k.registers }

  module _ (at c : ℕ) (r : List ℕ) (used : ℕ) (m : Machine row_values) (k : Kept at (c ∷ r) used m) where
    -- w rows more and a value for the last of them
    fresh_kept : (w : ℕ) (shape : Shape ℕ) (st ds : List ℕ) → Below (length m.memory) st → Grown m.memory w (make_rows shape m.memory)
        → Kept (suc at) r (used + w) (M.fresh row_values at shape st ds m)
    unfolding M.fresh
    fresh_kept w shape st ds h g =
        let more : length m.memory ≤ length (make_rows shape m.memory).0 = omega (arith, g.longer) in
        record {
          here = drop-next message at k.here;
          sound = g.sound;
          count = omega (arith, g.longer, k.count);
          stack = All-cons (Low (length (make_rows shape m.memory).0)) _ st g.inside (All-weaker (Low (length m.memory)) (Low (length (make_rows shape m.memory).0)) (λ v l. omega arith) st h);
          registers = λ x. grind (arith, k.registers x, more);
        }

    -- a span that starts after the byte at `at`
    span_in : (n : ℕ) → n ≤ length r → T (in_slice message (suc at) (length (take n r)))
    unfolding in_slice
    span_in n h =
        let e : length r ≡ length message - suc at = ap length (sym (drop-next message at k.here)) ∙ length-drop (suc at) message in
        let e' : suc (length r) ≡ length message - at = ap length (sym k.here) ∙ length-drop at message in
        rw (length-take-le n r h) (le→leb (suc at + n) (length message) (omega arith))

    span-spelled : (quote n : ℕ) → Quoted quote r n → T (spelled_in message quote (suc at) (length (take n r)))
    unfolding spelled_in
    span-spelled quote n h =
        let l : n ≤ length r = omega (arith, h.inside) in
        and_i (in_slice message (suc at) (length (take n r))) _ (span_in n l) (rw (length-take-le n r l, drop-next message at k.here) h.spells)

    -- a popped value and the stack under it
    popped : {stack : List ℕ} {v : ℕ} {st : List ℕ} → Below (length m.memory) stack → Popped row_values at r m stack v st → (v < length m.memory) × Below (length m.memory) st
    popped {v = v} {st = st} h p = let b = subst (Below (length m.memory)) p.splits h in (All-head (Low (length m.memory)) v st b, All-tail (Low (length m.memory)) v st b)

    one_row : (x : Row) → T (sound_row message (length m.memory) x) → T (sound_rest x.kind (row_at m.memory x.second).kind) → Grown m.memory 1 (add m.memory x)
    one_row x h g = grown_one m.memory x k.sound (and_i (sound_row message (length m.memory) x) _ h g)

    -- the row that a shape makes is sound
    made : {shape : Shape ℕ} {st : List ℕ} → Making row_values at r m shape st → Below (length m.memory) st × Grown m.memory 1 (make_rows shape m.memory)
    unfolding make_rows sound_row sound_rest integer_row span_row nil_row cons_row tag_row
    made (Mv.integers z h) = (k.stack, one_row _ tt tt)
    made (Mv.atoms n h) = (k.stack, one_row _ (span-spelled (code "'") n h) tt)
    made (Mv.strings n h) = (k.stack, one_row _ (span-spelled (code "\"") n h) tt)
    made (Mv.binaries n v p i h) = ((popped k.stack p).1, one_row _ (span_in n (omega arith)) tt)
    made Mv.nils = (k.stack, one_row _ tt tt)
    made (Mv.conses v l p q t) =
        let a = popped k.stack p in
        let b = popped a.1 q in
        (b.1, one_row (cons_row v l) (and_i (ltb v (length m.memory)) _ (lt→ltb v _ a.0) (lt→ltb l _ b.0)) (subst T (sym t) tt))
    made (Mv.tags n v p h) =
        let a = popped k.stack p in
        (a.1, one_row _ (and_i (spelled_in message (code "`") (suc at) (length (take n r))) _ (span-spelled (code "`") n h) (lt→ltb v _ a.0)) tt)

    -- the same rows, no row more
    still : {m' : Machine row_values} → m'.memory ≡ m.memory → Below (length m.memory) m'.stack → ((x : ℕ) → BelowIf (length m.memory) (m'.registers x)) → Kept (suc at) r (used + 0) m'
    still {m'} e h g = record {
      here = drop-next message at k.here;
      sound = rw e k.sound;
      count = rw e (omega (arith, k.count));
      stack = rw e h;
      registers = rw e g;
    }

    set-kept : (x v : ℕ) → v < length m.memory → (y : ℕ) → BelowIf (length m.memory) (M.set_register row_values x v m.registers y)
    unfolding M.set_register
    set-kept x v h y = cond_both (eqb y x) _ _ (BelowIf (length m.memory)) (λ e. h) (λ e. k.registers y)

    pub keeps : (lim : Limits) (s : Step row_values) → Move row_values at r m s → Mv.Next row_values lim Kept Accepted at r used m s
    unfolding make_rows
    keeps lim s (Mv.stops n p h g) = h
    keeps lim s (Mv.rests j i) = still refl k.stack k.registers
    keeps lim s (Mv.makes j i {shape} {st} x) = fresh_kept 1 shape st m.marks (made x).0 (made x).1
    keeps lim s Mv.opens = still refl k.stack k.registers
    keeps lim s (Mv.tuples d j ds e l) =
        let vs : List ℕ = reverse (take j m.stack) in
        let n : length vs ≡ j = length-reverse (take j m.stack) ∙ length-take-le j m.stack (omega arith) in
        let b : Below (length m.memory) vs = All-permutation (Low (length m.memory)) _ _ (IsPermutation-reverse (take j m.stack)) (All-take (Low (length m.memory)) j m.stack k.stack) in
        fresh_kept (suc j) (M.tuple vs) (drop j m.stack) ds (All-drop (Low (length m.memory)) j m.stack k.stack) (rw n at (grown-tuple m.memory k.sound vs b).grown)
    keeps lim s (Mv.stores x i v p) =
        let a = popped k.stack p in
        still refl a.1 (set-kept x v a.0)
    keeps lim s (Mv.pushes x v e) = still refl (All-cons (Low (length m.memory)) v m.stack (subst (BelowIf (length m.memory)) e (k.registers x)) k.stack) k.registers
    keeps lim s (Mv.ends v e) =
        let a : Below (length m.memory) (v ∷ []) = subst (Below (length m.memory)) e k.stack in
        record { sound = k.sound; count = k.count; root = omega (arith, All-head (Low (length m.memory)) v [] a, k.count) }

  pub start-kept : Kept 0 message 0 (M.start row_values)
  unfolding M.start sound_rows sound_after
  start-kept = record { here = refl; sound = tt; count = refl; stack = All-nil (Low 0); registers = λ x. tt }

  pub accepted-rows : (lim : Limits) (consumed : ℕ) (res : Result row_values) → run row_values lim message ≡ accepted consumed res → Accepted consumed res
  accepted-rows lim consumed res e =
      subst (Mv.AtEnd row_values lim Kept Accepted) e (holds row_values lim Kept Accepted pass (λ at c r used m k s x. keeps at c r used m k lim s x) message start-kept)
