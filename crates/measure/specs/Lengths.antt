-- 01, 'Plain text': how many bytes a row's text has, from the lengths of the texts of the rows that it names.
use Rattle.std.specs.Prelude.{ℕ, ◌+◌, ◌<◌, min, ◌≡◌, ◌&&◌, cond, List, [], ◌∷◌, ◌++◌, length, get_or, set, eqb}
use Rattle.format.specs.Term as T
use Rattle.format.specs.Term.{Term}
use Rattle.format.specs.Text.{natural_on, text_on}
use Rattle.format.specs.Rows.{Row, integer_kind, atom_kind, string_kind, binary_kind, nil_kind, cons_kind, end_kind, field_kind, tag_kind, integer_of_row, row_at, term_at}
use Rattle.format.specs.Sound.{sound_row, sound_rest}

-- how many bytes a term's text has, without `$`
abbrev pub text_length : Term → ℕ
text_length t = length (text_on t [])

-- the rows whose texts stand in a row's text: of a cell its item or field, and its rest, which is a list or tuple itself; of a tag its inner row
unfoldable pub named : Row → List ℕ
named r =
    cond (eqb r.kind cons_kind) (r.first ∷ r.second ∷ [])
    (cond (eqb r.kind field_kind) (r.first ∷ r.second ∷ [])
    (cond (eqb r.kind tag_kind) (r.third ∷ []) []))

-- they are all below n
abbrev pub below : ℕ → List ℕ → Type 0
below n [] = Unit {0}
below n (i ∷ rows) = (i < n) × below n rows

-- the other bytes. Integer: decimal and one blank; atom, string: bytes and two quotes; binary: count, bytes and two `~`; list: `#`, and `&` for each cell;
-- tuple: two braces; tag: bytes and two quotes
unfoldable pub own_length : Row → ℕ
own_length r =
    cond (eqb r.kind integer_kind) (text_length (T.int (integer_of_row r)))
    (cond (eqb r.kind atom_kind) (r.second + 2)
    (cond (eqb r.kind string_kind) (r.second + 2)
    (cond (eqb r.kind binary_kind) (length (natural_on r.second []) + (r.second + 2))
    (cond (eqb r.kind nil_kind) 1
    (cond (eqb r.kind cons_kind) 1
    (cond (eqb r.kind end_kind) 2
    (cond (eqb r.kind field_kind) 0
    (r.second + 2))))))))

-- the lengths of some rows' texts together
unfoldable pub total : (ℕ → ℕ) → List ℕ → ℕ
total length_of [] = 0
total length_of (i ∷ rows) = length_of i + total length_of rows

unfoldable pub row_length : (ℕ → ℕ) → Row → ℕ
row_length length_of r = total length_of (named r) + own_length r

-- a length in a word: the largest stands for itself and for all above
abbrev pub longest : ℕ
longest = 4294967295

unfoldable pub capped : ℕ → ℕ
capped n = min n longest

-- the length that row i's word holds
abbrev pub length_in : List ℕ → ℕ → ℕ
length_in lengths i = get_or lengths i 0

-- the rows before row i have the lengths of their texts in their words
abbrev pub Measured : List ℕ → List Row → List ℕ → ℕ → Type 0
Measured message rows lengths i = (j : ℕ) → j < i → get_or lengths j 0 ≡ capped (text_length (term_at message rows j))

-- the words once the rows were judged after the rows `earlier`: the word of each row gets its length, by the words of the rows that it names, up to the first row
-- that is not sound
unfoldable pub lengths_after : List ℕ → List Row → List Row → List ℕ → List ℕ
lengths_after message earlier [] lengths = lengths
lengths_after message earlier (r ∷ rows) lengths =
    cond (sound_row message (length earlier) r && sound_rest r.kind (row_at earlier r.second).kind)
    (lengths_after message (earlier ++ (r ∷ [])) rows (set lengths (length earlier) (capped (row_length (length_in lengths) r))))
    lengths
