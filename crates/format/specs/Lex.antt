-- 01, 'Bytes and items', and from 'Refusal numbers' how an item's bytes are read: from the left, the first that cannot
-- stand there is 4 at once, and 3 is given only if the slice ends with none met.
-- The item that stands at a byte is told by that byte and the bytes r that follow it in the slice.
use Rattle.std.specs.Prelude.{ℕ, suc, ◌+◌, ◌*◌, ◌-◌, ◌^◌, Bool, true, false, ◌||◌, cond, List, [], ◌∷◌, ℤ, pos, negsuc, neg_ℤ, ltb, eqb}
use Prim.Native.Char.{code}
use Rattle.format.specs.Byte as B
use Rattle.format.specs.Byte.{Class, class_of, has_class}

-- an item; a number says how many of the bytes in r belong to it, for quoted text without its closing quote
pub data Item : Type 0 where
  white_item : Item
  comment_item atom_item string_item tag_item : ℕ → Item
  integer_item : ℤ → ℕ → Item
  open_item close_item tilde_item hash_item ampersand_item end_item : Item
  -- with the register's byte
  store_item push_item : ℕ → Item
  -- refusals 3, 4 and 5: the slice ends inside the item; a byte not allowed there, so many bytes on; integer out of range
  cut : Item
  stray : ℕ → Item
  too_large : Item

-- what a look for a closing quote finds: the slice's end, or, so many bytes on, a byte not allowed there or the quote
pub data Scan : Type 0 where
  ended : Scan
  stray_at closed_at : ℕ → Scan

-- a backslash must be followed by a backslash or by that quote; k bytes are passed, and `escaped` says that a backslash is the last
unfoldable pub scan : ℕ → Bool → ℕ → List ℕ → Scan
scan quote escaped k [] = ended
scan quote true k (c ∷ r) = elim (eqb c (code "\\") || eqb c quote) [ true ↦ scan quote false (suc k) r | false ↦ stray_at k ]
scan quote false k (c ∷ r) = elim (eqb c quote) [ true ↦ closed_at k | false ↦ scan quote (eqb c (code "\\")) (suc k) r ]

-- the item that comes of the look
unfoldable pub quoted_item : (ℕ → Item) → Scan → Item
quoted_item item ended = cut
quoted_item item (stray_at k) = stray (suc k)
quoted_item item (closed_at k) = item k

-- atom, string, tag, comment: bytes up to the same quote (01's mark)
unfoldable pub quoted : ℕ → (ℕ → Item) → List ℕ → Item
quoted quote item r = quoted_item item (scan quote false 0 r)

-- what a run of digits comes to: the slice's end, or a value and the count of bytes passed
pub data Digits : Type 0 where
  unfinished : Digits
  value : ℕ → ℕ → Digits

-- as many digits as there are, after k bytes; the digits so far are worth v
unfoldable pub digits : ℕ → ℕ → List ℕ → Digits
digits v k [] = unfinished
digits v k (c ∷ r) = elim (has_class B.digit c) [ true ↦ digits (v * 10 + (c - code "0")) (suc k) r | false ↦ value v k ]

-- the range of an integer
unfoldable pub in_range : ℤ → Bool
in_range (pos n) = ltb n (2 ^ 63)
in_range (negsuc n) = ltb n (2 ^ 63)

-- an integer that runs to the end of the slice is cut; leading zeros and -0 are read
unfoldable pub integer_of : (ℕ → ℤ) → Digits → Item
integer_of sign unfinished = cut
integer_of sign (value v k) = cond (in_range (sign v)) (integer_item (sign v) k) too_large

-- after a minus: a digit has to come
unfoldable pub negative : List ℕ → Item
negative [] = cut
negative (c ∷ r) = cond (has_class B.digit c) (integer_of (λ v. neg_ℤ (pos v)) (digits (c - code "0") 1 r)) (stray 1)

-- after `>`: the register byte, at once
unfoldable pub store : List ℕ → Item
store [] = cut
store (c ∷ r) = cond (has_class B.register c) (store_item c) (stray 1)

-- the item by its first byte's class; a comma is a byte with no meaning
unfoldable pub item_of : Class → ℕ → List ℕ → Item
item_of B.white c r = white_item
item_of B.digit c r = integer_of (λ v. pos v) (digits (c - code "0") 0 r)
item_of B.minus c r = negative r
item_of B.atom_quote c r = quoted (code "'") atom_item r
item_of B.string_quote c r = quoted (code "\"") string_item r
item_of B.tag_quote c r = quoted (code "`") tag_item r
item_of B.comment_quote c r = quoted (code "%") comment_item r
item_of B.left_brace c r = open_item
item_of B.right_brace c r = close_item
item_of B.tilde c r = tilde_item
item_of B.hash c r = hash_item
item_of B.ampersand c r = ampersand_item
item_of B.dollar c r = end_item
item_of B.greater c r = store r
item_of B.comma c r = stray 0
item_of B.register c r = push_item c

-- the item at byte c, before the bytes r
unfoldable pub lex : ℕ → List ℕ → Item
lex c r = item_of (class_of c) c r
