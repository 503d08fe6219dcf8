-- Theorem 5: no answer but 3 changes when bytes are appended to the message; so bytes after `$` change nothing of an accepted one.
use Prim.Native.Nat.{ℕ, zero, suc, ◌+◌, ◌*◌, ◌-◌, ◌≤◌, ◌<◌}
use Prim.Native.Char.{code}
use mathlib.Core.Path.{◌≡◌, refl, sym, ◌∙◌, subst}
use mathlib.Core.Bool.{Bool, true, false}
use mathlib.Core.Option.{Option, none, some}
use mathlib.Core.List.{List, [], ◌∷◌, ◌++◌}
use mathlib.Core.Logic.{inl, inr}
use native.Mathlib.Omega.{arith}
use lib.IntN.{ℤ, pos, negsuc, neg_ℤ}
use lib.ListN.{length, take, length-append, get_or-append}
use lib.Seq.{take-append-le}
use lib.Dec.{eqb}
use borrow.Author.Tests.{le-leb, lt-leb}
use Rattle.std.proofs.lemmas.Bool.{cases_Bool, cases_lt}
use Rattle.format.specs.Byte as B
use Rattle.format.specs.Byte.{Class, class_of, has_class}
use Rattle.format.specs.Lex as L
use Rattle.format.specs.Lex.{Item, Scan, Digits, in_range, lex, scan, digits, integer_of, quoted, quoted_item, negative, store, item_of}
use Rattle.format.specs.Machine as M
use Rattle.format.specs.Machine.{Values, Machine, Limits, Step, Outcome, Result, refuse, go, finish, refused, accepted, run, run_free}
use Rattle.format.proofs.Items.{ItemOk, lex-ok}
use Rattle.format.proofs.Limits.{accepted-free, value_only, enough-room}

-- what comes of x and of x ++ z: the same; or of x `end`, which says that x ends too early, and of x ++ z a refusal or what reaches past x
data Agree {A : Type 0} (end : A) (Far : A → Type 0) : A → A → Type 0 where
  same : {a : A} → Agree end Far a a
  ends : {b : A} → Far b → Agree end Far end b

agree-map : {A B : Type 0} {end : A} {F : A → Type 0} {G : B → Type 0} (f : A → B) → ((a : A) → F a → G (f a)) → {a b : A} → Agree end F a b → Agree (f end) G (f a) (f b)
agree-map f h same = same
agree-map f h (ends {b} p) = ends (h b p)

-- digits that go on for n bytes
abbrev FarDigits : ℕ → Digits → Type 0
FarDigits n L.unfinished = Unit {0}
FarDigits n (L.value v k) = n ≤ k

digits-far : (n v j : ℕ) (r : List ℕ) → n ≤ j → FarDigits n (digits v j r)
unfolding digits
digits-far n v j [] l = tt
digits-far n v j (c ∷ r) l = grind (arith, digits-far n (v * 10 + (c - code "0")) (suc j) r)

digits-agree : (n v j : ℕ) (x z : List ℕ) → n ≡ j + length x → Agree L.unfinished (FarDigits n) (digits v j x) (digits v j (x ++ z))
unfolding digits
digits-agree n v j [] z e = ends (digits-far n v j z (omega arith))
digits-agree n v j (c ∷ x) z e = grind (arith, same, digits-agree n (v * 10 + (c - code "0")) (suc j) x z)

-- a scan that meets its quote after n bytes
abbrev FarScan : ℕ → Scan → Type 0
FarScan n Scan.ended = Unit {0}
FarScan n (L.stray_at k) = Unit {0}
FarScan n (L.closed_at k) = n ≤ k

scan-far : (n quote : ℕ) (escaped : Bool) (j : ℕ) (r : List ℕ) → n ≤ j → FarScan n (scan quote escaped j r)
unfolding scan
scan-far n quote escaped j [] l = tt
scan-far n quote true j (c ∷ r) l = grind (arith, scan-far n quote false (suc j) r)
scan-far n quote false j (c ∷ r) l = grind (arith, scan-far n quote (eqb c (code "\\")) (suc j) r)

scan-agree : (n quote : ℕ) (escaped : Bool) (j : ℕ) (x z : List ℕ) → n ≡ j + length x → Agree Scan.ended (FarScan n) (scan quote escaped j x) (scan quote escaped j (x ++ z))
unfolding scan
scan-agree n quote escaped j [] z e = ends (scan-far n quote escaped j z (omega arith))
scan-agree n quote true j (c ∷ x) z e = grind (arith, same, scan-agree n quote false (suc j) x z)
scan-agree n quote false j (c ∷ x) z e = grind (arith, same, scan-agree n quote (eqb c (code "\\")) (suc j) x z)

-- the items that x ++ z can show where x is cut off inside the item: n is the length of x
abbrev FarItem : ℕ → Item → Type 0
FarItem n (L.comment_item k) = n ≤ k
FarItem n (L.atom_item k) = n ≤ k
FarItem n (L.string_item k) = n ≤ k
FarItem n (L.tag_item k) = n ≤ k
FarItem n (L.integer_item i k) = n ≤ k
FarItem n (L.store_item b) = n ≤ 1
FarItem n L.cut = Unit {0}
FarItem n (L.stray k) = Unit {0}
FarItem n L.too_large = Unit {0}
FarItem n _ = ⊥

abbrev Items : ℕ → Item → Item → Type 0
Items n = Agree L.cut (FarItem n)

integer-agree : (n : ℕ) (sign : ℕ → ℤ) {d d' : Digits} → Agree L.unfinished (FarDigits n) d d' → Items n (integer_of sign d) (integer_of sign d')
unfolding integer_of
integer-agree n sign = agree-map (integer_of sign) (λ d h. grind arith)

quoted-agree : (quote : ℕ) (item : ℕ → Item) (x z : List ℕ) → ((k : ℕ) → length x ≤ k → FarItem (length x) (item k)) → Items (length x) (quoted quote item x) (quoted quote item (x ++ z))
unfolding quoted quoted_item
quoted-agree quote item x z h = agree-map (quoted_item item) (λ s g. grind (arith, h)) (scan-agree (length x) quote false 0 x z (omega arith))

negative-agree : (x z : List ℕ) → Items (length x) (negative x) (negative (x ++ z))
unfolding negative integer_of
negative-agree [] [] = same
negative-agree [] (c ∷ z) = ends (grind (arith, digits-far 0 (c - code "0") 1 z))
negative-agree (c ∷ x) z = elim (cases_Bool (has_class B.digit c)) [
  | inl e ↦ rw e (integer-agree (suc (length x)) (λ v. neg_ℤ (pos v)) (digits-agree (suc (length x)) (c - code "0") 1 x z (omega arith)))
  | inr e ↦ rw e same
]

store-agree : (x z : List ℕ) → Items (length x) (store x) (store (x ++ z))
unfolding store
store-agree [] [] = same
store-agree [] (c ∷ z) = ends (grind arith)
store-agree (c ∷ x) z = same

item-agree : (k : Class) (c : ℕ) (x z : List ℕ) → Items (length x) (item_of k c x) (item_of k c (x ++ z))
unfolding item_of
item-agree B.digit c x z = integer-agree (length x) (λ v. pos v) (digits-agree (length x) (c - code "0") 0 x z (omega arith))
item-agree B.minus c x z = negative-agree x z
item-agree B.atom_quote c x z = quoted-agree (code "'") L.atom_item x z (λ k h. h)
item-agree B.string_quote c x z = quoted-agree (code "\"") L.string_item x z (λ k h. h)
item-agree B.tag_quote c x z = quoted-agree (code "`") L.tag_item x z (λ k h. h)
item-agree B.comment_quote c x z = quoted-agree (code "%") L.comment_item x z (λ k h. h)
item-agree B.greater c x z = store-agree x z
item-agree _ c x z = same

lex-agree : (c : ℕ) (x z : List ℕ) → Items (length x) (lex c x) (lex c (x ++ z))
unfolding lex
lex-agree c x z = item-agree (class_of c) c x z

-- an answer other than refusal 3
abbrev pub NotCut : {A : Type 0} → Outcome A → Type 0
NotCut (refused n p) = ¬ (n ≡ 3)
NotCut (accepted k r) = Unit {0}

-- a run that refuses, or accepts after more than n bytes
abbrev FarRun : {A : Type 0} → ℕ → Outcome A → Type 0
FarRun n (refused a p) = Unit {0}
FarRun n (accepted k r) = n < k

-- from x to x ++ z, unless x is cut
onward : {A : Type 0} {n : ℕ} {a b : Outcome A} → Agree (refused 3 n) (FarRun n) a b → NotCut a → b ≡ a
onward same h = refl
onward (ends p) h = absurd (h refl)

-- and back, where x holds all that was read
back : {A : Type 0} {n : ℕ} {a b : Outcome A} (r : A) → Agree (refused 3 n) (FarRun n) a b → b ≡ accepted n r → a ≡ accepted n r
back r same e = e
back {n} r (ends p) e = absurd (omega (arith, subst (FarRun n) e p))

module _ (𝒱 : Values) where
  -- a step that refuses, or goes on past n bytes
  abbrev FarStep : ℕ → Step 𝒱 → Type 0
  FarStep n (refuse a p) = Unit {0}
  FarStep n (go k w m) = n ≤ k
  FarStep n (finish v) = ⊥

  module _ (at : ℕ) (x z : List ℕ) (m : Machine 𝒱) where
    abbrev Steps : Step 𝒱 → Step 𝒱 → Type 0
    Steps = Agree (refuse 3 (suc at + length x)) (FarStep (length x))

    pop-far : (st : List 𝒱.Value) (next : 𝒱.Value → List 𝒱.Value → Step 𝒱) → ((v : 𝒱.Value) (st' : List 𝒱.Value) → FarStep (length x) (next v st'))
        → FarStep (length x) (M.pop 𝒱 at m.marks st next)
    unfolding M.pop
    pop-far [] next h = tt
    pop-far (v ∷ st) next h = grind (arith, h v st)

    pop-agree : (st : List 𝒱.Value) (next next' : 𝒱.Value → List 𝒱.Value → Step 𝒱) → ((v : 𝒱.Value) (st' : List 𝒱.Value) → Steps (next v st') (next' v st'))
        → Steps (M.pop 𝒱 at m.marks st next) (M.pop 𝒱 at m.marks st next')
    unfolding M.pop
    pop-agree [] next next' h = same
    pop-agree (v ∷ st) next next' h = grind (arith, same, h v st)

    -- a step that takes bytes inside x
    take-agree : (f : List ℕ → Step 𝒱) (k : ℕ) → k < length x → Steps (f (take k x)) (f (take k (x ++ z)))
    take-agree f k h = rw (take-append-le k x z (omega arith)) same

    binary-agree : (st : List 𝒱.Value) (o : Option ℤ) → Steps (M.take_binary 𝒱 at x m st o) (M.take_binary 𝒱 at (x ++ z) m st o)
    unfolding M.take_binary
    binary-agree st none = same
    binary-agree st (some (negsuc n)) = same
    binary-agree st (some (pos n)) = elim (cases_lt n (length x)) [
      | inl l ↦
          rw (lt-leb (length x) n l, lt-leb (length (x ++ z)) n (omega (arith, length-append x z)), get_or-append x z 0 n l, take-append-le n x z (omega arith)) same
      | inr l ↦
          let far : FarStep (length x) (M.take_binary 𝒱 at (x ++ z) m st (some (pos n))) = grind arith in
          rw (le-leb (length x) n l) (ends far)
    ]

    -- the same item on both sides
    step_same : (i : Item) → ItemOk x i → Steps (M.step 𝒱 at x m i) (M.step 𝒱 at (x ++ z) m i)
    unfolding M.step
    step_same (L.atom_item k) h = take-agree (λ b. go (suc k) 1 (M.fresh 𝒱 at (M.atom (suc at) b) m.stack m.marks m)) k h.inside
    step_same (L.string_item k) h = take-agree (λ b. go (suc k) 1 (M.fresh 𝒱 at (M.string (suc at) b) m.stack m.marks m)) k h.inside
    step_same (L.tag_item k) h =
        take-agree (λ b. M.pop 𝒱 at m.marks m.stack (λ v st. go (suc k) 1 (M.fresh 𝒱 at (M.tag (suc at) b v) st m.marks m))) k h.inside
    step_same L.tilde_item h = pop-agree m.stack _ _ (λ v st. binary-agree st (𝒱.integer_in m.memory v))
    step_same L.cut h = ends tt
    step_same _ h = same

    step-far : (i : Item) → FarItem (length x) i → FarStep (length x) (M.step 𝒱 at (x ++ z) m i)
    unfolding M.step
    step-far i h = grind (arith, pop-far m.stack)

    step-agree : {i j : Item} → Items (length x) i j → ItemOk x i → Steps (M.step 𝒱 at x m i) (M.step 𝒱 at (x ++ z) m j)
    unfolding M.step
    step-agree (same {a = i}) h = step_same i h
    step-agree (ends p) h = ends (step-far _ p)

  follow-far : {A : Type 0} (n : ℕ) (s : Step 𝒱) (next : ℕ → ℕ → Machine 𝒱 → Outcome A) (end : 𝒱.Value → Outcome A)
      → ((k w : ℕ) (m : Machine 𝒱) → FarRun n (next k w m)) → ((v : 𝒱.Value) → FarRun n (end v)) → FarRun n (M.follow 𝒱 s next end)
  unfolding M.follow
  follow-far n s next end f g = grind (arith, f, g)

  follow-agree : {A : Type 0} (j n : ℕ) (next next' : ℕ → ℕ → Machine 𝒱 → Outcome A) (end : 𝒱.Value → Outcome A)
      → ((k w : ℕ) (m : Machine 𝒱) → Agree (refused 3 n) (FarRun n) (next k w m) (next' k w m)) → ((k w : ℕ) (m : Machine 𝒱) → j ≤ k → FarRun n (next' k w m))
      → {s t : Step 𝒱} → Agree (refuse 3 n) (FarStep j) s t → Agree (refused 3 n) (FarRun n) (M.follow 𝒱 s next end) (M.follow 𝒱 t next' end)
  unfolding M.follow
  follow-agree j n next next' end f g (same {a = go k w m}) = f k w m
  follow-agree j n next next' end f g (same {a = _}) = same
  follow-agree j n next next' end f g (ends {b = refuse a p} h) = ends tt
  follow-agree j n next next' end f g (ends {b = go k w m} h) = ends (g k w m h)
  follow-agree j n next next' end f g (ends {b = finish v} h) = absurd h

  module _ (lim : Limits) where
    -- the limits leave refusals as they are and far steps far
    bounded-far : (j at used : ℕ) (s : Step 𝒱) → FarStep j s → FarStep j (M.bounded 𝒱 lim at used s)
    unfolding M.bounded
    bounded-far j at used s h = grind arith

    run-far : (n : ℕ) (r : List ℕ) (skip at used : ℕ) (m : Machine 𝒱) → n ≤ at + skip → FarRun n (M.run_from 𝒱 lim r skip at used m)
    unfolding M.run_from
    run-far n [] skip at used m h = tt
    run-far n (c ∷ r) (suc k) at used m h = run-far n r k (suc at) used m (omega arith)
    run-far n (c ∷ r) zero at used m h = follow-far n _ _ _ (λ k w m'. run-far n r k (suc at) (used + w) m' (omega arith)) (λ v. omega arith)

    run-agree : (n : ℕ) (x z : List ℕ) (skip at used : ℕ) (m : Machine 𝒱) → n ≡ at + length x
        → Agree (refused 3 n) (FarRun n) (M.run_from 𝒱 lim x skip at used m) (M.run_from 𝒱 lim (x ++ z) skip at used m)
    unfolding M.run_from M.bounded
    run-agree n [] z skip at used m e =
        let here : at ≡ n = omega arith in
        rw here (ends (run-far n z skip n used m (omega arith)))
    run-agree n (c ∷ x) z (suc k) at used m e = run-agree n x z k (suc at) used m (omega arith)
    run-agree n (c ∷ x) z zero at used m e =
        let place : suc at + length x ≡ n = omega arith in
        let steps = rw place at (step-agree at x z m (lex-agree c x z) (lex-ok c x)) in
        follow-agree (length x) n _ _ _ (λ k w m'. run-agree n x z k (suc at) (used + w) m' (omega arith))
        (λ k w m' h. run-far n (x ++ z) k (suc at) (used + w) m' (omega arith)) (agree-map {G = FarStep (length x)} (M.bounded 𝒱 lim at used) (bounded-far (length x) at used) steps)

    pub appended : (x z : List ℕ) (a : Outcome (Result 𝒱)) → run 𝒱 lim x ≡ a → NotCut a → run 𝒱 lim (x ++ z) ≡ a
    unfolding M.run
    appended x z a e h = onward (run-agree (length x) x z 0 0 0 (M.start 𝒱) (omega arith)) (subst NotCut (sym e) h) ∙ e

    -- bytes after the `$`: changed, cut off (z = []) or added to (y = [])
    pub rest_unread : (x y z : List ℕ) (r : Result 𝒱) → run 𝒱 lim (x ++ y) ≡ accepted (length x) r → run 𝒱 lim (x ++ z) ≡ accepted (length x) r
    unfolding M.run
    rest_unread x y z r e = appended x z (accepted (length x) r) (back r (run-agree (length x) x y 0 0 0 (M.start 𝒱) (omega arith)) e) tt

  -- without limits: with enough of them the run is the same
  pub appended-free : (x z : List ℕ) (k : ℕ) (v : 𝒱.Value) → run_free 𝒱 x ≡ accepted k v → run_free 𝒱 (x ++ z) ≡ accepted k v
  unfolding value_only
  appended-free x z k v e = by (run 𝒱 roomy x) refl (enough-room 𝒱 roomy x (omega arith) (omega arith) (omega arith) ∙ e)
    where
      roomy : Limits
      roomy = record { rows = 2 * length x; stack = length x; marks = length x }

      by : (a : Outcome (Result 𝒱)) → run 𝒱 roomy x ≡ a → value_only 𝒱 roomy a ≡ accepted k v → run_free 𝒱 (x ++ z) ≡ accepted k v
      by (refused n p) f g = cc
      by (accepted j res) f g = accepted-free 𝒱 roomy (x ++ z) j res (appended roomy x z (accepted j res) f tt) ∙ g
