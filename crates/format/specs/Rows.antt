-- 01, 'Row table': the rows, the machine at rows, the terms that rows stand for, and the words that they lie in.
use Rattle.std.specs.Prelude.{ℕ, zero, suc, ◌+◌, ◌*◌, ◌^◌, ◌/◌, ◌%◌, min, Bool, ◌||◌, cond, List, [], ◌∷◌, ◌++◌, ℤ, length, get_or, take, drop, eqb}
use Rattle.std.proofs.Math.Option.{Option, none, some}
use Rattle.format.specs.Bits.{to_bits, from_bits}
use Rattle.format.specs.Bound.{row_bound}
use Rattle.format.specs.Term as T
use Rattle.format.specs.Term.{Term, Terms, ◌then◌}
use Rattle.format.specs.Meaning.{items_of}
use Rattle.format.specs.Machine as M
use Rattle.format.specs.Machine.{Shape, Values}

-- a row: its kind and its other three words (in the code `Row` is a row's number)
pub record Row : Type 0 where
  pub kind : ℕ
  pub first : ℕ
  pub second : ℕ
  pub third : ℕ

-- a row by its words
abbrev pub row : ℕ → ℕ → ℕ → ℕ → Row
row k a b c = record { kind = k; first = a; second = b; third = c }

-- the kinds
abbrev pub integer_kind : ℕ
integer_kind = 1

abbrev pub atom_kind : ℕ
atom_kind = 2

abbrev pub string_kind : ℕ
string_kind = 3

abbrev pub binary_kind : ℕ
binary_kind = 4

abbrev pub nil_kind : ℕ
nil_kind = 5

abbrev pub cons_kind : ℕ
cons_kind = 6

abbrev pub end_kind : ℕ
end_kind = 7

abbrev pub field_kind : ℕ
field_kind = 8

abbrev pub tag_kind : ℕ
tag_kind = 9

-- an integer: high half and low half of two's complement
unfoldable pub integer_row : ℤ → Row
integer_row z = row integer_kind (to_bits 64 z / 2 ^ 32) (to_bits 64 z % 2 ^ 32) 0

-- an atom, a string or a binary: start and length as spelled, escapes kept
unfoldable pub span_row : ℕ → ℕ → List ℕ → Row
span_row kind start bytes = row kind start (length bytes) 0

-- the empty list
unfoldable pub nil_row : Row
nil_row = row nil_kind 0 0 0

-- a list cell: item row, rest row
unfoldable pub cons_row : ℕ → ℕ → Row
cons_row item rest = row cons_kind item rest 0

-- a tuple's end
unfoldable pub end_row : Row
end_row = row end_kind 0 0 0

-- a tuple's field: field row, rest row
unfoldable pub field_row : ℕ → ℕ → Row
field_row field rest = row field_kind field rest 0

-- a tag: start, length, inner row
unfoldable pub tag_row : ℕ → List ℕ → ℕ → Row
tag_row start bytes inner = row tag_kind start (length bytes) inner

-- one row more, and its number; row numbers start at 0
unfoldable pub add : List Row → Row → List Row × ℕ
add rows r = (rows ++ (r ∷ []), length rows)

-- `}` over k values makes k + 1 rows: the end, then fields from last to first
unfoldable pub add_tuple : List Row → List ℕ → List Row × ℕ
add_tuple rows [] = add rows end_row
add_tuple rows (v ∷ vs) = let p = add_tuple rows vs in add p.0 (field_row v p.1)

-- each literal, `~`, `#`, `&` and tag makes one row as it is done
unfoldable pub make_rows : Shape ℕ → List Row → List Row × ℕ
make_rows (M.integer z) rows = add rows (integer_row z)
make_rows (M.atom start b) rows = add rows (span_row atom_kind start b)
make_rows (M.string start b) rows = add rows (span_row string_kind start b)
make_rows (M.binary start b) rows = add rows (span_row binary_kind start b)
make_rows M.nil rows = add rows nil_row
make_rows (M.cons v l) rows = add rows (cons_row v l)
make_rows (M.tuple vs) rows = add_tuple rows vs
make_rows (M.tag start b v) rows = add rows (tag_row start b v)

-- row i; past the rows, one of no kind
unfoldable pub row_at : List Row → ℕ → Row
row_at rows i = get_or rows i (row 0 0 0 0)

-- the integer in a row of kind 1
unfoldable pub integer_of_row : Row → ℤ
integer_of_row r = from_bits 64 (r.first * 2 ^ 32 + r.second)

-- what serves as a count
unfoldable pub row_integer : Row → Option ℤ
row_integer r = cond (eqb r.kind integer_kind) (some (integer_of_row r)) none

-- what serves as a list, and what as a tuple's rest
unfoldable pub is_list_kind : ℕ → Bool
is_list_kind k = eqb k nil_kind || eqb k cons_kind

unfoldable pub is_tuple_kind : ℕ → Bool
is_tuple_kind k = eqb k end_kind || eqb k field_kind

-- row numbers as values: the rows made are kept
abbrev pub row_values : Values
row_values = record {
  Memory = List Row;
  Value = ℕ;
  empty = [];
  make = λ at shape rows. make_rows shape rows;
  integer_in = λ rows v. row_integer (row_at rows v);
  is_list = λ rows v. is_list_kind (row_at rows v).kind;
}

-- the fields of a tuple; nobody asks for those of anything else
unfoldable pub fields_of : Term → Terms
fields_of (T.int z) = T.none
fields_of (T.atom b) = T.none
fields_of (T.string b) = T.none
fields_of (T.binary b) = T.none
fields_of (T.list ts) = T.none
fields_of (T.tuple ts) = ts
fields_of (T.tag b t) = T.none

-- so many bytes of the message from `start` on
abbrev pub span_of : List ℕ → ℕ → ℕ → List ℕ
span_of message start n = take n (drop start message)

-- what stands where no term is; neither an integer nor a list, and nobody asks
abbrev pub no_term : Term
no_term = T.atom []

-- the term of a row, from the message and the terms of the earlier rows
unfoldable pub term_of_row : List ℕ → List Term → Row → Term
term_of_row message ts r =
    let span = span_of message r.first r.second in
    let earlier : ℕ → Term = λ i. get_or ts i no_term in
    cond (eqb r.kind integer_kind) (T.int (integer_of_row r))
    (cond (eqb r.kind atom_kind) (T.atom span)
    (cond (eqb r.kind string_kind) (T.string span)
    (cond (eqb r.kind binary_kind) (T.binary span)
    (cond (eqb r.kind nil_kind) (T.list T.none)
    (cond (eqb r.kind cons_kind) (T.list (earlier r.first then items_of (earlier r.second)))
    (cond (eqb r.kind end_kind) (T.tuple T.none)
    (cond (eqb r.kind field_kind) (T.tuple (earlier r.first then fields_of (earlier r.second)))
    (cond (eqb r.kind tag_kind) (T.tag span (earlier r.third))
    no_term))))))))

-- the terms of rows, after rows whose terms are ts
unfoldable pub terms_after : List ℕ → List Term → List Row → List Term
terms_after message ts [] = ts
terms_after message ts (r ∷ rows) = terms_after message (ts ++ (term_of_row message ts r ∷ [])) rows

-- the term that row v of a table stands for
unfoldable pub term_at : List ℕ → List Row → ℕ → Term
term_at message rows v = get_or (terms_after message [] rows) v no_term

-- rows lie one after the other, four words each
abbrev pub row_words : ℕ
row_words = 4

-- the words of rows
unfoldable pub words_of : List Row → List ℕ
words_of [] = []
words_of (r ∷ rows) = r.kind ∷ r.first ∷ r.second ∷ r.third ∷ words_of rows

-- the first n rows that lie in words
unfoldable pub rows_of : ℕ → List ℕ → List Row
rows_of zero words = []
rows_of (suc n) words = row (get_or words 0 0) (get_or words 1 0) (get_or words 2 0) (get_or words 3 0) ∷ rows_of n (drop row_words words)

-- the rows that a table of words has room for: its words divided by four, rounded down, and at most the bound
unfoldable pub row_room : List ℕ → ℕ
row_room words = min (length words / row_words) row_bound
