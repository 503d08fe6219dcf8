-- Theorem 2: the machine at rows does what the machine at terms does.
use Prim.Native.Nat.{ℕ, zero, suc, ◌+◌, ◌*◌, ◌-◌, ◌/◌, ◌%◌, ◌^◌, ◌≤◌, ◌<◌}
use Prim.Native.Char.{code}
use mathlib.Core.Path.{◌≡◌, refl, ap, ap₂, ◌∙◌}
use mathlib.Core.Bool.{Bool, true, false, cond}
use mathlib.Core.Option.{Option, none, some}
use mathlib.Core.List.{List, [], ◌∷◌, ◌++◌, reverse_aux}
use native.Mathlib.Omega.{arith}
use lib.IntN.{ℤ, pos, negsuc}
use lib.ListN.{length, get_or, take, drop, length-append, get_or-append}
use lib.Dec.{eqb, ltb, leb, T}
use lib.Seq.{length-take-le, get_or-append_seam, get_or_at}
use lib.Ieee.Bits.{is_true}
use borrow.Author.Tests.{ltb-true, le-ltb, leb-false}
use Rattle.format.specs.Lex as L
use Rattle.format.specs.Lex.{Item, in_range, lex}
use Rattle.format.specs.Term as Te
use Rattle.format.specs.Term.{Term, ◌then◌, terms_from}
use Rattle.format.specs.Meaning.{term_values, items_of, term_of, term_integer, term_is_list}
use Rattle.format.specs.Bits.{to_bits, from_bits}
use Rattle.format.specs.Rows.{Row, row, row_values, make_rows, add, add_tuple, integer_row, span_row, nil_row, cons_row, end_row, field_row, tag_row, row_at, integer_of_row, row_integer, is_list_kind, no_term, fields_of, span_of, term_of_row, terms_after, term_at}
use Rattle.format.specs.Machine as M
use Rattle.format.specs.Machine.{Machine, Shape, Step, Outcome, Result, Limits, base, refuse, go, finish, refused, accepted, run}
use Rattle.format.proofs.Lists.{drop-next}
use Rattle.format.proofs.TableRows.{terms_append, terms_length}
use Rattle.format.proofs.Items.{ItemOk, lex-ok}

-- 64 bits hold every integer in range
pub bits_hold : (z : ℤ) → T (in_range z) → from_bits 64 (to_bits 64 z) ≡ z
unfolding from_bits to_bits in_range
bits_hold (pos k) h = rw (is_true (ltb k (2 ^ 63)) h)
bits_hold (negsuc k) h =
    let l : k < 2 ^ 63 = ltb-true k (2 ^ 63) (is_true (ltb k (2 ^ 63)) h) in
    rw (le-ltb (2 ^ 64 - suc k) (2 ^ 63) (omega arith)) (ap negsuc (omega arith))

module _ (message : List ℕ) where
  -- row v stands for t, and both machines see the same of it
  record Stands (rows : List Row) (v : ℕ) (t : Term) : Type 0 where
    inside : v < length rows
    is : term_at message rows v ≡ t
    same_integer : row_integer (row_at rows v) ≡ term_integer t
    same_list : is_list_kind (row_at rows v).kind ≡ term_is_list t

  -- what a row has to be to stand for t
  record Spells (rows : List Row) (r : Row) (t : Term) : Type 0 where
    is : term_of_row message (terms_after message [] rows) r ≡ t
    same_integer : row_integer r ≡ term_integer t
    same_list : is_list_kind r.kind ≡ term_is_list t

  stands-still : (rows : List Row) (r : Row) {v : ℕ} {t : Term} → Stands rows v t → Stands (rows ++ (r ∷ [])) v t
  unfolding term_at row_at terms_after
  stands-still rows r {v} s =
      let same : get_or (rows ++ (r ∷ [])) v (row 0 0 0 0) ≡ get_or rows v (row 0 0 0 0) = get_or-append rows (r ∷ []) (row 0 0 0 0) v s.inside in
      record {
        inside = omega (arith, length-append rows (r ∷ []), s.inside);
        is = rw (terms_append message) (get_or-append (terms_after message [] rows) _ no_term v (omega (arith, terms_length message [] rows, s.inside)) ∙ s.is);
        same_integer = rw same s.same_integer;
        same_list = rw same s.same_list;
      }

  stands_new : (rows : List Row) (r : Row) (t : Term) → Spells rows r t → Stands (rows ++ (r ∷ [])) (length rows) t
  unfolding term_at row_at terms_after
  stands_new rows r t s = record {
    inside = omega (arith, length-append rows (r ∷ []));
    is = rw (terms_append message) (get_or_at (terms_after message [] rows) _ [] no_term (length rows) (omega (arith, terms_length message [] rows)) ∙ s.is);
    same_integer = rw get_or-append_seam s.same_integer;
    same_list = rw get_or-append_seam s.same_list;
  }

  -- p has rows and more, and a row that stands for t
  record Made (rows : List Row) (p : List Row × ℕ) (t : Term) : Type 0 where
    grows : (v : ℕ) (u : Term) → Stands rows v u → Stands p.0 v u
    stands : Stands p.0 p.1 t

  made_one : (rows : List Row) (r : Row) (t : Term) → Spells rows r t → Made rows (add rows r) t
  unfolding add
  made_one rows r t s = record { grows = λ v u h. stands-still rows r h; stands = stands_new rows r t s }

  infixr 40 ◌on◌
  -- values on the two stacks, side by side
  data Stacks (rows : List Row) : List ℕ → List Term → Type 0 where
    empty : Stacks rows [] []
    ◌on◌ : {v : ℕ} {t : Term} {vs : List ℕ} {ts : List Term} → Stands rows v t → Stacks rows vs ts → Stacks rows (v ∷ vs) (t ∷ ts)

  -- the shapes that the machines hand over, side by side
  data Shapes (rows : List Row) : Shape ℕ → Shape Term → Type 0 where
    integers : (z : ℤ) → T (in_range z) → Shapes rows (M.integer z) (M.integer z)
    atoms : (s : ℕ) (b : List ℕ) → span_of message s (length b) ≡ b → Shapes rows (M.atom s b) (M.atom s b)
    strings : (s : ℕ) (b : List ℕ) → span_of message s (length b) ≡ b → Shapes rows (M.string s b) (M.string s b)
    binaries : (s : ℕ) (b : List ℕ) → span_of message s (length b) ≡ b → Shapes rows (M.binary s b) (M.binary s b)
    nils : Shapes rows M.nil M.nil
    conses : {v l : ℕ} {t u : Term} → Stands rows v t → Stands rows l u → Shapes rows (M.cons v l) (M.cons t u)
    tuples : {vs : List ℕ} {ts : List Term} → Stacks rows vs ts → Shapes rows (M.tuple vs) (M.tuple ts)
    tags : (s : ℕ) (b : List ℕ) {v : ℕ} {t : Term} → span_of message s (length b) ≡ b → Stands rows v t → Shapes rows (M.tag s b v) (M.tag s b t)

  made-tuple : (rows : List Row) {vs : List ℕ} {ts : List Term} → Stacks rows vs ts → Made rows (add_tuple rows vs) (Te.tuple (terms_from ts))
  unfolding add_tuple terms_from term_of_row row_integer is_list_kind term_integer term_is_list term_at fields_of end_row field_row
  made-tuple rows empty = made_one rows end_row (Te.tuple Te.none) (record { is = refl; same_integer = refl; same_list = refl })
  made-tuple rows (◌on◌ {v} {t} {vs} {ts} s st) =
      let w = made-tuple rows st in
      let rows' : List Row = (add_tuple rows vs).0 in
      let rest : ℕ = (add_tuple rows vs).1 in
      let is : Te.tuple (term_at message rows' v then fields_of (term_at message rows' rest)) ≡ Te.tuple (t then terms_from ts) =
      ap₂ (λ (x y : Term). Te.tuple (x then fields_of y)) (w.grows v t s).is w.stands.is in
      let one : Made rows' (add rows' (field_row v rest)) (Te.tuple (t then terms_from ts)) =
      made_one rows' (field_row v rest) (Te.tuple (t then terms_from ts)) (record { is = is; same_integer = refl; same_list = refl }) in
      record { grows = λ x u h. one.grows x u (w.grows x u h); stands = one.stands }

  made_shape : (rows : List Row) {a : Shape ℕ} {b : Shape Term} → Shapes rows a b → Made rows (make_rows a rows) (term_of b)
  unfolding make_rows term_of term_of_row row_integer is_list_kind term_integer term_is_list term_at integer_of_row integer_row span_row nil_row cons_row tag_row
  made_shape rows (integers z h) =
      let e : from_bits 64 (to_bits 64 z / 2 ^ 32 * 2 ^ 32 + to_bits 64 z % 2 ^ 32) ≡ z = grind (arith, bits_hold z h) in
      made_one rows (integer_row z) (Te.int z) (record { is = ap Te.int e; same_integer = ap some e; same_list = refl })
  made_shape rows (atoms s b e) = made_one rows _ (Te.atom b) (record { is = ap Te.atom e; same_integer = refl; same_list = refl })
  made_shape rows (strings s b e) = made_one rows _ (Te.string b) (record { is = ap Te.string e; same_integer = refl; same_list = refl })
  made_shape rows (binaries s b e) = made_one rows _ (Te.binary b) (record { is = ap Te.binary e; same_integer = refl; same_list = refl })
  made_shape rows nils = made_one rows nil_row (Te.list Te.none) (record { is = refl; same_integer = refl; same_list = refl })
  made_shape rows (conses {v} {l} {t} {u} p q) =
      made_one rows (cons_row v l) (Te.list (t then items_of u)) (record { is = ap₂ (λ (x y : Term). Te.list (x then items_of y)) p.is q.is; same_integer = refl; same_list = refl })
  made_shape rows (tuples st) = made-tuple rows st
  made_shape rows (tags s b {v} {t} e p) = made_one rows _ (Te.tag b t) (record { is = ap₂ Te.tag e p.is; same_integer = refl; same_list = refl })

  -- what stood still stands
  abbrev Grows : List Row → List Row → Type 0
  Grows rows rows' = (v : ℕ) (u : Term) → Stands rows v u → Stands rows' v u

  stacks_grow : {rows rows' : List Row} → Grows rows rows' → {vs : List ℕ} {ts : List Term} → Stacks rows vs ts → Stacks rows' vs ts
  stacks_grow g empty = empty
  stacks_grow g (◌on◌ {v} {t} s st) = (g v t s) on (stacks_grow g st)

  stacks-length : {rows : List Row} {vs : List ℕ} {ts : List Term} → Stacks rows vs ts → length vs ≡ length ts
  stacks-length empty = refl
  stacks-length (s on st) = ap suc (stacks-length st)

  stacks-drop : {rows : List Row} (k : ℕ) {vs : List ℕ} {ts : List Term} → Stacks rows vs ts → Stacks rows (drop k vs) (drop k ts)
  stacks-drop zero st = st
  stacks-drop (suc k) empty = empty
  stacks-drop (suc k) (s on st) = stacks-drop k st

  stacks-take : {rows : List Row} (k : ℕ) {vs : List ℕ} {ts : List Term} → Stacks rows vs ts → Stacks rows (take k vs) (take k ts)
  stacks-take zero st = empty
  stacks-take (suc k) empty = empty
  stacks-take (suc k) (s on st) = s on (stacks-take k st)

  stacks-reverse : {rows : List Row} {vs vs' : List ℕ} {ts ts' : List Term} → Stacks rows vs ts → Stacks rows vs' ts' → Stacks rows (reverse_aux vs vs') (reverse_aux ts ts')
  stacks-reverse empty st = st
  stacks-reverse (s on st) st' = stacks-reverse st (s on st')

  -- the contents of a register, side by side
  data Options (rows : List Row) : Option ℕ → Option Term → Type 0 where
    nones : Options rows none none
    somes : {v : ℕ} {t : Term} → Stands rows v t → Options rows (some v) (some t)

  options_grow : {rows rows' : List Row} → Grows rows rows' → {o : Option ℕ} {p : Option Term} → Options rows o p → Options rows' o p
  options_grow g nones = nones
  options_grow g (somes {v} {t} s) = somes (g v t s)

  -- the two machines in step
  record Like (a : Machine row_values) (b : Machine term_values) : Type 0 where
    stacks : Stacks a.memory a.stack b.stack
    marks : a.marks ≡ b.marks
    registers : (x : ℕ) → Options a.memory (a.registers x) (b.registers x)

  data Steps (a : Machine row_values) : Step row_values → Step term_values → Type 0 where
    refuses : (n p : ℕ) → Steps a (refuse n p) (refuse n p)
    goes : (k w : ℕ) {a' : Machine row_values} {b' : Machine term_values} → Like a' b' → Steps a (go k w a') (go k w b')
    finishes : {v : ℕ} {t : Term} → Stands a.memory v t → Steps a (finish v) (finish t)

  conds : {a : Machine row_values} (c : Bool) {x y : Step row_values} {x' y' : Step term_values} → Steps a x x' → (c ≡ false → Steps a y y') → Steps a (cond c x y) (cond c x' y')
  conds true p q = p
  conds false p q = q refl

  pops : {a : Machine row_values} (at : ℕ) {ds ds' : List ℕ} → ds ≡ ds' → {vs : List ℕ} {ts : List Term} → Stacks a.memory vs ts
      → {next : ℕ → List ℕ → Step row_values} {next' : Term → List Term → Step term_values}
      → ((v : ℕ) (t : Term) (st : List ℕ) (st' : List Term) → Stands a.memory v t → Stacks a.memory st st' → Steps a (next v st) (next' t st'))
      → Steps a (M.pop row_values at ds vs next) (M.pop term_values at ds' ts next')
  unfolding M.pop
  pops at e empty f = refuses 6 at
  pops at e (◌on◌ {v} {t} {vs} {ts} s st) f = grind (arith, refuses, f v t vs ts s st, stacks-length st, e)

  module _ (at : ℕ) (r : List ℕ) (here : drop (suc at) message ≡ r) {a : Machine row_values} {b : Machine term_values} (l : Like a b) where
    fresh_like : {x : Shape ℕ} {y : Shape Term} → Shapes a.memory x y → {st : List ℕ} {st' : List Term} → Stacks a.memory st st' → {ds ds' : List ℕ} → ds ≡ ds'
        → Like (M.fresh row_values at x st ds a) (M.fresh term_values at y st' ds' b)
    unfolding M.fresh
    fresh_like sh st e =
        let p = made_shape a.memory sh in
        record { stacks = p.stands on (stacks_grow p.grows st); marks = e; registers = λ x. options_grow p.grows (l.registers x) }

    -- the bytes of the message at the new span
    span : (n : ℕ) → n ≤ length r → span_of message (suc at) (length (take n r)) ≡ take n r
    span n h = rw (length-take-le n r h, here)

    binaries-take : {st : List ℕ} {st' : List Term} → Stacks a.memory st st' → (o : Option ℤ) → Steps a (M.take_binary row_values at r a st o) (M.take_binary term_values at r b st' o)
    unfolding M.take_binary
    binaries-take st none = refuses 7 at
    binaries-take st (some (negsuc n)) = refuses 8 at
    binaries-take st (some (pos n)) =
        conds (leb (length r) n) (refuses 3 (suc at + length r)) (λ e.
        conds (eqb (get_or r n 0) (code "~"))
        (goes (suc n) 1 (fresh_like (binaries (suc at) (take n r) (span n (omega (arith, leb-false (length r) n e)))) st l.marks)) (λ e'. refuses 4 (suc at + n)))

    closes : (ds : List ℕ) {ds' : List ℕ} → ds ≡ ds' → Steps a (M.close_tuple row_values at a ds) (M.close_tuple term_values at b ds')
    unfolding M.close_tuple
    closes [] e = rw (← e) (refuses 10 at)
    closes (d ∷ ds) e =
        let k : ℕ = length a.stack - d in
        rw (← e, ← stacks-length l.stacks)
        (conds (ltb (length a.stack) d) (refuses 17 at) (λ f.
        goes 0 (suc k) (fresh_like (tuples (stacks-reverse (stacks-take k l.stacks) empty)) (stacks-drop k l.stacks) refl)))

    pushes : {o : Option ℕ} {p : Option Term} → Options a.memory o p → Steps a (M.push_register row_values at a o) (M.push_register term_values at b p)
    unfolding M.push_register
    pushes nones = refuses 9 at
    pushes (somes s) = goes 0 0 (record { stacks = s on l.stacks; marks = l.marks; registers = l.registers })

    onlys : {st : List ℕ} {st' : List Term} → Stacks a.memory st st' → Steps a (M.only_value row_values at st) (M.only_value term_values at st')
    unfolding M.only_value
    onlys empty = refuses 11 at
    onlys (s on empty) = finishes s
    onlys (s on s' on st) = refuses 11 at

    ends : (ds : List ℕ) {ds' : List ℕ} → ds ≡ ds' → Steps a (M.end_message row_values at a ds) (M.end_message term_values at b ds')
    unfolding M.end_message
    ends [] e = rw (← e) (onlys l.stacks)
    ends (d ∷ ds) e = rw (← e) (refuses 10 at)

    sets : (x : ℕ) {v : ℕ} {t : Term} → Stands a.memory v t → (y : ℕ) → Options a.memory (M.set_register row_values x v a.registers y) (M.set_register term_values x t b.registers y)
    unfolding M.set_register
    sets x s y = grind (arith, somes s, l.registers y)

    steps : (i : Item) → ItemOk r i → Steps a (M.step row_values at r a i) (M.step term_values at r b i)
    unfolding M.step M.cons_list
    steps L.white_item h = goes 0 0 l
    steps (L.comment_item k) h = goes (suc k) 0 l
    steps (L.atom_item k) h = goes (suc k) 1 (fresh_like (atoms (suc at) (take k r) (span k (omega (arith, h.inside)))) l.stacks l.marks)
    steps (L.string_item k) h = goes (suc k) 1 (fresh_like (strings (suc at) (take k r) (span k (omega (arith, h.inside)))) l.stacks l.marks)
    steps (L.tag_item k) h = pops at l.marks l.stacks (λ v t st st' s ss.
        goes (suc k) 1 (fresh_like (tags (suc at) (take k r) (span k (omega (arith, h.inside))) s) ss l.marks))
    steps (L.integer_item z k) h = goes k 1 (fresh_like (integers z h.0) l.stacks l.marks)
    steps L.open_item h = goes 0 0 (record { stacks = l.stacks; marks = ap₂ ◌∷◌ (stacks-length l.stacks) l.marks; registers = l.registers })
    steps L.close_item h = closes a.marks l.marks
    steps L.tilde_item h = pops at l.marks l.stacks (λ v t st st' s ss. rw s.same_integer (binaries-take ss (term_integer t)))
    steps L.hash_item h = goes 0 1 (fresh_like nils l.stacks l.marks)
    steps L.ampersand_item h = pops at l.marks l.stacks (λ v t mid mid' s ss. pops at l.marks ss (λ v' t' st st' s' ss'.
        rw s'.same_list (conds (term_is_list t') (goes 0 1 (fresh_like (conses s s') ss' l.marks)) (λ f. refuses 7 at))))
    steps L.end_item h = ends a.marks l.marks
    steps (L.store_item x) h = pops at l.marks l.stacks (λ v t st st' s ss. goes 1 0 (record { stacks = ss; marks = l.marks; registers = sets x s }))
    steps (L.push_item x) h = pushes (l.registers x)
    steps L.cut h = refuses 3 (suc at + length r)
    steps (L.stray k) h = refuses 4 (at + k)
    steps L.too_large h = refuses 5 at

  boundeds : (lim : Limits) (at used : ℕ) {a : Machine row_values} {x : Step row_values} {y : Step term_values} → Steps a x y → Steps a (M.bounded row_values lim at used x) (M.bounded term_values lim at used y)
  unfolding M.bounded
  boundeds lim at used (refuses n p) = refuses n p
  boundeds lim at used (finishes s) = finishes s
  boundeds lim at used (goes k w l) = grind (arith, refuses, goes, l, stacks-length l.stacks, l.marks)

  -- what the machine at rows says, with the root's term for the root
  unfoldable pub in_terms : Outcome (Result row_values) → Outcome (Result term_values)
  in_terms (refused n p) = refused n p
  in_terms (accepted k res) = accepted k (record { used = res.used; root = term_at message res.memory res.root; memory = tt })

  follows : {a : Machine row_values} {x : Step row_values} {y : Step term_values} → Steps a x y
      → (f : ℕ → ℕ → Machine row_values → Outcome (Result row_values)) (g : ℕ → ℕ → Machine term_values → Outcome (Result term_values))
      → ((k w : ℕ) (a' : Machine row_values) (b' : Machine term_values) → Like a' b' → in_terms (f k w a') ≡ g k w b')
      → (at used : ℕ)
      → in_terms (M.follow row_values x f (λ v. accepted at (record { used = used; root = v; memory = a.memory })))
      ≡ M.follow term_values y g (λ v. accepted at (record { used = used; root = v; memory = tt }))
  unfolding M.follow in_terms
  follows (refuses n p) f g h at used = refl
  follows (goes k w l) f g h at used = h k w _ _ l
  follows (finishes s) f g h at used = ap (λ (t : Term). accepted at (record { used = used; root = t; memory = tt })) s.is

  runs : (lim : Limits) (s : List ℕ) (skip at used : ℕ) → drop at message ≡ s → {a : Machine row_values} {b : Machine term_values} → Like a b
      → in_terms (M.run_from row_values lim s skip at used a) ≡ M.run_from term_values lim s skip at used b
  unfolding M.run_from in_terms
  runs lim [] skip at used e l = refl
  runs lim (c ∷ r) (suc k) at used e l = runs lim r k (suc at) used (drop-next message at e) l
  runs lim (c ∷ r) zero at used e l =
      follows (boundeds lim at used (steps at r (drop-next message at e) l (lex c r) (lex-ok c r))) _ _
      (λ k w a' b' l'. runs lim r k (suc at) (used + w) (drop-next message at e) l') (suc at) used

  -- the same refusal at the same place, or the same bytes consumed and rows used, and the root row stands for the term
  pub same_answer : (lim : Limits) → in_terms (run row_values lim message) ≡ run term_values lim message
  unfolding run M.start
  same_answer lim = runs lim message 0 0 0 refl (record { stacks = empty; marks = refl; registers = λ x. nones })
