-- What the search for a name answers, in the definitions' own formats, and word k of two rows; for the functions inside.
use Rattle.std.specs.Prelude.{ℕ, ◌+◌, ◌*◌, ◌^◌, not, cond, List, [], eqb, Option, Some, None, length}
use Rattle.std.proofs.Math.Option as M
use Rattle.format.specs.Rows.{Row, binary_kind, tag_kind, span_of}
use Rattle.format.specs.Term as T
use Rattle.format.specs.Word as F
use Rattle.format.specs.Word.{formats, joined, format_in, no_word, word_named}
use Rattle.words.specs.declared.layout.Order.{Order}
use Rattle.words.specs.declared.layout.Order.TheVariants.{Big, Little}
use Rattle.words.specs.declared.layout.Layout.{Layout}

-- a byte order of the code, as the definitions have it
unfoldable pub order_of : Order → F.Order
order_of Big = F.big
order_of Little = F.little

-- a format that says what a layout says; its name does not matter
unfoldable pub format_of : Layout → F.Format
format_of l = record { name = []; width = l.width; signed = l.signed; order = order_of l.order }

-- a name as a number: a byte 1 and the name's bytes, joined as those of a big-endian word
abbrev pub name_number : List ℕ → ℕ
name_number name = 2 ^ (8 * length name) + joined F.big name

-- a format without its name
abbrev pub nameless : F.Format → F.Format
nameless f = record { name = []; width = f.width; signed = f.signed; order = f.order }

-- what a search for a name answers: in the code's layouts, and in the definitions' formats
unfoldable pub said : Option Layout → Option F.Format
said None = None
said (Some l) = Some (format_of l)

unfoldable pub found : M.Option F.Format → Option F.Format
found M.none = None
found (M.some f) = Some (nameless f)

-- word k of a row and the row that it wraps, by their kinds and their own bytes: 18 where they are no tag and no binary
unfoldable pub word_of_rows : List ℕ → Row → Row → ℕ → F.Word
word_of_rows message tag block k =
    cond (not (eqb tag.kind tag_kind)) (no_word 18)
    (cond (not (eqb block.kind binary_kind)) (no_word 18)
    (word_named (format_in formats (span_of message tag.first tag.second)) (T.binary (span_of message block.first block.second)) k))
