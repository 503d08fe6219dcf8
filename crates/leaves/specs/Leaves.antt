-- 01, 'Plain text': the text of a leaf, which is a row that names no other.
use Rattle.std.specs.Prelude.{ℕ, ◌+◌, ◌≤◌, ◌≡◌, Bool, true, false, ◌||◌, cond, List, [], ◌∷◌, ◌++◌, eqb, leb, length}
use Prim.Native.Char.{code}
use Rattle.format.specs.Term as T
use Rattle.format.specs.Text.{natural_on, between, text_on}
use Rattle.format.specs.Rows.{Row, span_of, integer_kind, atom_kind, string_kind, binary_kind, nil_kind, end_kind, integer_of_row}

-- an integer, by its sign and its magnitude: decimal and one blank
unfoldable pub integer_bytes : Bool → ℕ → List ℕ
integer_bytes false n = natural_on n (code " " ∷ [])
integer_bytes true n = code "-" ∷ natural_on n (code " " ∷ [])

-- the kinds of leaves: integer, atom, string, binary and empty list are the first five; a tuple's end, as a value, is the empty tuple
unfoldable pub is_leaf_kind : ℕ → Bool
is_leaf_kind k = leb k nil_kind || eqb k end_kind

-- the kinds whose text is a span of the message: atom, string and binary
unfoldable pub is_span_kind : ℕ → Bool
is_span_kind k = eqb k atom_kind || (eqb k string_kind || eqb k binary_kind)

-- what stands before and after the bytes of an atom, a string or a binary, by the kind
unfoldable pub quote_of : ℕ → ℕ
quote_of k = cond (eqb k atom_kind) (code "'") (cond (eqb k string_kind) (code "\"") (code "~"))

-- what stands before that: of a binary its count, of an atom and a string nothing
unfoldable pub count_bytes : ℕ → ℕ → List ℕ
count_bytes k n = cond (eqb k binary_kind) (natural_on n []) []

-- an atom, a string or a binary, by its bytes
unfoldable pub bytes_of : ℕ → List ℕ → List ℕ
bytes_of k bytes = count_bytes k (length bytes) ++ between (quote_of k) bytes []

-- an atom, a string or a binary of n bytes from `start` on; its bytes are as spelled in the message
unfoldable pub span_bytes : List ℕ → ℕ → ℕ → ℕ → List ℕ
span_bytes message k start n = count_bytes k n ++ between (quote_of k) (span_of message start n) []

abbrev pub empty_tuple : List ℕ
empty_tuple = code "{" ∷ code "}" ∷ []

-- the text of a leaf
unfoldable pub leaf_bytes : List ℕ → Row → List ℕ
leaf_bytes message r =
    cond (eqb r.kind integer_kind) (text_on (T.int (integer_of_row r)) [])
    (cond (is_span_kind r.kind) (span_bytes message r.kind r.first r.second)
    (cond (eqb r.kind nil_kind) (code "#" ∷ [])
    empty_tuple))

-- a leaf whose span, where it has one, lies in the slice
unfoldable pub Inside : List ℕ → Row → Type 0
Inside message r =
    (r.kind ≡ atom_kind → r.first + r.second ≤ length message)
    × ((r.kind ≡ string_kind → r.first + r.second ≤ length message)
    × (r.kind ≡ binary_kind → r.first + r.second ≤ length message))
