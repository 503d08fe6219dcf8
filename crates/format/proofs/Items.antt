-- What is known of an item that was read: its bytes are in the slice, an integer is in range, quoted bytes are well spelled.
use Prim.Native.Nat.{ℕ, suc, ◌+◌, ◌*◌, ◌-◌, ◌≤◌, ◌<◌}
use Prim.Native.Char.{code}
use mathlib.Core.Path.{◌≡◌}
use mathlib.Core.Bool.{Bool, true, false}
use mathlib.Core.List.{List, [], ◌∷◌}
use native.Mathlib.Omega.{arith}
use lib.ListN.{length, take}
use lib.Dec.{eqb, T}
use Rattle.format.specs.Byte as B
use Rattle.format.specs.Byte.{Class, class_of, has_class}
use Rattle.format.specs.Lex as L
use Rattle.format.specs.Lex.{Item, Scan, Digits, in_range, lex, scan, digits, integer_of, quoted, quoted_item, negative, store, item_of}
use Rattle.format.specs.Sound.{spelled}

-- k bytes of r are spelled as between two quotes, and the closing quote follows them
pub record Quoted (quote : ℕ) (r : List ℕ) (k : ℕ) : Type 0 where
  pub spells : T (spelled quote false (take k r))
  pub inside : k < length r

abbrev pub ItemOk : List ℕ → Item → Type 0
ItemOk r (L.comment_item k) = k < length r
ItemOk r (L.atom_item k) = Quoted (code "'") r k
ItemOk r (L.string_item k) = Quoted (code "\"") r k
ItemOk r (L.tag_item k) = Quoted (code "`") r k
ItemOk r (L.integer_item z k) = T (in_range z) × (k ≤ length r)
ItemOk r (L.store_item x) = 1 ≤ length r
ItemOk r (L.stray k) = k ≤ length r
ItemOk r _ = Unit {0}

-- a scan that has passed j bytes closes after k: `far` bytes on, all well spelled
record Closes (quote : ℕ) (escaped : Bool) (j : ℕ) (r : List ℕ) (k : ℕ) : Type 0 where
  far : ℕ
  adds : k ≡ j + far
  inside : far < length r
  spells : T (spelled quote escaped (take far r))

abbrev ScanOk : ℕ → Bool → ℕ → List ℕ → Scan → Type 0
ScanOk quote escaped j r Scan.ended = Unit {0}
ScanOk quote escaped j r (L.stray_at k) = k < j + length r
ScanOk quote escaped j r (L.closed_at k) = Closes quote escaped j r k

-- one byte more in front
scan-more : (quote : ℕ) (before after : Bool) (j c : ℕ) (r : List ℕ) → ((b : List ℕ) → T (spelled quote after b) → T (spelled quote before (c ∷ b)))
    → (s : Scan) → ScanOk quote after (suc j) r s → ScanOk quote before j (c ∷ r) s
scan-more quote before after j c r f Scan.ended h = tt
scan-more quote before after j c r f (L.stray_at k) h = omega arith
scan-more quote before after j c r f (L.closed_at k) h = record {
  far = suc h.far;
  adds = omega (arith, h.adds);
  inside = omega (arith, h.inside);
  spells = f (take h.far r) h.spells;
}

scan-ok : (quote : ℕ) (escaped : Bool) (j : ℕ) (r : List ℕ) → ScanOk quote escaped j r (scan quote escaped j r)
unfolding scan spelled
scan-ok quote escaped j [] = tt
scan-ok quote true j (c ∷ r) = grind (arith, scan-ok quote false (suc j) r, scan-more quote true false j c r)
scan-ok quote false j (c ∷ r) = grind (arith, scan-ok quote (eqb c (code "\\")) (suc j) r, scan-more quote false (eqb c (code "\\")) j c r)

abbrev DigitsOk : ℕ → List ℕ → Digits → Type 0
DigitsOk j r L.unfinished = Unit {0}
DigitsOk j r (L.value v k) = k ≤ j + length r

digits-ok : (v j : ℕ) (r : List ℕ) → DigitsOk j r (digits v j r)
unfolding digits
digits-ok v j [] = tt
digits-ok v j (c ∷ r) = grind (arith, digits-ok (v * 10 + (c - code "0")) (suc j) r)

pub quoted-ok : (quote : ℕ) (item : ℕ → Item) (r : List ℕ) → ((k : ℕ) → Quoted quote r k → ItemOk r (item k)) → ItemOk r (quoted quote item r)
unfolding quoted quoted_item
quoted-ok quote item r h = grind (arith, h, scan-ok quote false 0 r)

item_ok : (k : Class) (c : ℕ) (r : List ℕ) → ItemOk r (item_of k c r)
unfolding item_of integer_of negative store
item_ok B.digit c r = grind (arith, digits-ok)
item_ok B.minus c r = grind (arith, digits-ok)
item_ok B.atom_quote c r = quoted-ok (code "'") L.atom_item r (λ k m. m)
item_ok B.string_quote c r = quoted-ok (code "\"") L.string_item r (λ k m. m)
item_ok B.tag_quote c r = quoted-ok (code "`") L.tag_item r (λ k m. m)
item_ok B.comment_quote c r = quoted-ok (code "%") L.comment_item r (λ k m. m.inside)
item_ok B.greater c r = grind arith
item_ok B.comma c r = omega arith
item_ok _ c r = tt

pub lex-ok : (c : ℕ) (r : List ℕ) → ItemOk r (lex c r)
unfolding lex
lex-ok c r = item_ok (class_of c) c r
