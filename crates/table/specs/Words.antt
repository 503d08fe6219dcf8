-- The words of tables: rows stored and read in them, and the values of a stack.
use Rattle.std.specs.Prelude.{ℕ, zero, suc, ◌+◌, ◌*◌, ◌-◌, cond, List, [], ◌∷◌, ◌++◌, length, take, get_or, replicate, ltb}
use Rattle.std.proofs.lemmas.List.Edits.{sets}
use Rattle.format.specs.Rows.{Row, row, row_words, words_of, row_room, end_row, field_row}
use Rattle.table.specs.declared.RowWords.{RowWords}

-- the row of a row's words
abbrev pub row_of : RowWords → Row
row_of w = row w.kind w.first w.second w.third

-- rows stored from row n on
unfoldable pub stored_rows : List ℕ → ℕ → List Row → List ℕ
stored_rows words n rows = sets words (n * row_words) (words_of rows)

-- row n; zeros past the room
unfoldable pub row_in : List ℕ → ℕ → Row
row_in words n =
    let word : ℕ → ℕ = λ i. get_or words (n * row_words + i) 0 in
    cond (ltb n (row_room words)) (row (word 0) (word 1) (word 2) (word 3)) (row 0 0 0 0)

-- zeros from word n on
unfoldable pub cleared_from : ℕ → List ℕ → List ℕ
cleared_from n words = take n words ++ replicate (length words - n) 0

-- the first n words, the last of them first: a stack's values, top first
unfoldable pub last_first : List ℕ → ℕ → List ℕ
last_first words zero = []
last_first words (suc n) = get_or words n 0 ∷ last_first words n

-- the values above `base` and up to `depth`, top first
unfoldable pub between : List ℕ → ℕ → ℕ → List ℕ
between stack base depth = take (depth - base) (last_first stack depth)

-- the rows of a tuple's fields, from the last to the first; `rest` is the row made before
unfoldable pub field_rows : ℕ → List ℕ → List Row
field_rows rest [] = []
field_rows rest (v ∷ vs) = field_row v rest ∷ field_rows (suc rest) vs

-- `}`: the end, then the fields from the last to the first
unfoldable pub tuple_rows : ℕ → List ℕ → List Row
tuple_rows n values = end_row ∷ field_rows n values
