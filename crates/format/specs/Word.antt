-- 01, 'Sensor words': the ten tag names, and word k of a sensor block (01's word block).
use Rattle.std.specs.Prelude.{ℕ, ◌+◌, ◌*◌, ◌/◌, ◌%◌, Bool, true, false, not, cond, List, [], ◌∷◌, reverse, ℤ, pos, length, take, drop, eqb, leb}
use Prim.Native.String.{String}
use Rattle.std.proofs.Math.Option.{Option, none, some}
use Rattle.format.specs.Byte.{bytes_of, same_bytes}
use Rattle.format.specs.Term as T
use Rattle.format.specs.Term.{Term}
use Rattle.format.specs.Bits.{from_bits}

-- byte order: most significant byte first, or last
pub data Order : Type 0 where
  big little : Order

-- a tag name, and the width in bytes, the sign and the byte order that it names
pub record Format : Type 0 where
  pub name : List ℕ
  pub width : ℕ
  pub signed : Bool
  pub order : Order

-- a format by its name as text
unfoldable pub format : String → ℕ → Bool → Order → Format
unfolding bytes_of
format name width signed order = record { name = bytes_of name; width = width; signed = signed; order = order }

-- the ten known names; of one byte there is one order
unfoldable pub formats : List Format
unfolding format
formats =
    format "u8" 1 false big ∷ format "i8" 1 true big
    ∷ format "u16be" 2 false big ∷ format "u16le" 2 false little ∷ format "i16be" 2 true big ∷ format "i16le" 2 true little
    ∷ format "u32be" 4 false big ∷ format "u32le" 4 false little ∷ format "i32be" 4 true big ∷ format "i32le" 4 true little ∷ []

-- the format that a name stands for; none where it is not known
unfoldable pub format_in : List Format → List ℕ → Option Format
format_in [] name = none
format_in (f ∷ fs) name = elim (same_bytes f.name name) [ true ↦ some f | false ↦ format_in fs name ]

-- bytes joined, most significant first, after those worth `high`
unfoldable pub join_after : ℕ → List ℕ → ℕ
join_after high [] = high
join_after high (b ∷ bytes) = join_after (high * 256 + b) bytes

-- bytes joined in an order
unfoldable pub joined : Order → List ℕ → ℕ
joined big bytes = join_after 0 bytes
joined little bytes = join_after 0 (reverse bytes)

-- the word that some bytes are: i is two's complement
unfoldable pub word_of : Format → List ℕ → ℤ
word_of f bytes = cond f.signed (from_bits (8 * f.width) (joined f.order bytes)) (pos (joined f.order bytes))

-- number and value: 0 and the word, or a refusal's number and 0
pub record Word : Type 0 where
  pub number : ℕ
  pub value : ℤ

-- a refusal
abbrev pub no_word : ℕ → Word
no_word number = record { number = number; value = pos 0 }

-- 19 and 20: word k, from 0, of a block's bytes
unfoldable pub word_in : Format → List ℕ → ℕ → Word
word_in f block k =
    cond (not (eqb (length block % f.width) 0)) (no_word 19)
    (cond (leb (length block / f.width) k) (no_word 20)
    (record { number = 0; value = word_of f (take f.width (drop (k * f.width) block)) }))

-- 18: what the tag wraps has to be a binary
unfoldable pub word_under : Format → Term → ℕ → Word
word_under f (T.int z) k = no_word 18
word_under f (T.atom b) k = no_word 18
word_under f (T.string b) k = no_word 18
word_under f (T.binary b) k = word_in f b k
word_under f (T.list ts) k = no_word 18
word_under f (T.tuple ts) k = no_word 18
word_under f (T.tag b t) k = no_word 18

-- 18: the tag's name has to be known
unfoldable pub word_named : Option Format → Term → ℕ → Word
word_named none t k = no_word 18
word_named (some f) t k = word_under f t k

-- 18: word k of a term, which has to be a tag
unfoldable pub word_of_term : Term → ℕ → Word
word_of_term (T.int z) k = no_word 18
word_of_term (T.atom b) k = no_word 18
word_of_term (T.string b) k = no_word 18
word_of_term (T.binary b) k = no_word 18
word_of_term (T.list ts) k = no_word 18
word_of_term (T.tuple ts) k = no_word 18
word_of_term (T.tag name t) k = word_named (format_in formats name) t k
