-- Rows read and stored in the words of a table, and the values of a stack: how they change as rows are stored and values are pushed.
use Prim.Native.Nat.{ℕ, zero, suc, ◌+◌, ◌*◌, ◌-◌, ◌≤◌, ◌<◌}
use mathlib.Core.Path.{◌≡◌, refl, ap, ◌∙◌}
use mathlib.Core.List.{List, [], ◌∷◌, ◌++◌, reverse, append_assoc, reverse_aux-eq, reverse-reverse}
use native.Mathlib.Nat.{add-zero, add-suc, suc-add, sub-zero, suc-sub-suc, le_refl}
use native.Mathlib.Omega.{arith}
use lib.ListN.{length, drop, get_or, set, replicate, length-append, length-reverse}
use lib.Seq.{get_or-drop, get_or-set_same, get_or-set_other}
use borrow.Author.Tests.{lt-ltb, le-ltb}
use Rattle.format.specs.Rows.{Row, row, row_words, words_of, rows_of, row_room, row_at, field_row, add, add_tuple}
use Rattle.table.specs.Words.{row_in, last_first, field_rows, tuple_rows}

abbrev zeros : ℕ → List ℕ
zeros n = replicate n 0

-- a row by the four words from i on
abbrev row_from : List ℕ → ℕ → Row
row_from words i = row (get_or words i 0) (get_or words (i + 1) 0) (get_or words (i + 2) 0) (get_or words (i + 3) 0)

module _ (words : List ℕ) (n : ℕ) where
  pub row_inside : n < row_room words → row_in words n ≡ row_from words (n * row_words)
  unfolding row_in
  row_inside h = simp (lt-ltb _ _ h, add-zero)

  pub row_outside : row_room words ≤ n → row_in words n ≡ row 0 0 0 0
  unfolding row_in
  row_outside h = simp (le-ltb _ _ h)

pub words_append : (mem rows : List Row) → words_of (mem ++ rows) ≡ words_of mem ++ words_of rows
unfolding words_of
words_append [] rows = refl
words_append (r ∷ mem) rows = rw (words_append mem rows)

pub get_d_zeros : (n i : ℕ) → get_or (zeros n) i 0 ≡ 0
get_d_zeros zero i = refl
get_d_zeros (suc n) zero = refl
get_d_zeros (suc n) (suc i) = get_d_zeros n i

rows_at : (used : ℕ) (words : List ℕ) (i : ℕ) → i < used → row_from words (i * row_words) ≡ row_at (rows_of used words) i
unfolding rows_of row_at
rows_at zero words i h = absurd (omega arith)
rows_at (suc n) words zero h = refl
rows_at (suc n) words (suc i) h =
    let word : (k : ℕ) → suc i * row_words + k ≡ row_words + (i * row_words + k) = λ k. omega arith in
    let first : suc i * row_words ≡ row_words + i * row_words = omega arith in
    rw (word 1, word 2, word 3, first) (simp get_or-drop at (rows_at n (drop row_words words) i (omega arith)))

-- a row that is used, as it is read and as it is among the rows
pub row_of : (words : List ℕ) (used i : ℕ) → used ≤ row_room words → i < used → row_in words i ≡ row_at (rows_of used words) i
row_of words used i h l = row_inside words i (omega arith) ∙ rows_at used words i l

-- a value stored above so many
pub kept : (words : List ℕ) (d n v : ℕ) → n ≤ d → last_first (set words d v) n ≡ last_first words n
unfolding last_first
kept words d zero v h = refl
kept words d (suc n) v h = rw (get_or-set_other words d n v 0 (λ e. omega arith), kept words d n v (omega arith))

-- a value pushed
pub pushed : (words : List ℕ) (d v : ℕ) → d < length words → last_first (set words d v) (suc d) ≡ v ∷ last_first words d
unfolding last_first
pushed words d v h = rw (get_or-set_same words d v 0 h, kept words d d v (le_refl d))

pub length-last_first : (words : List ℕ) (n : ℕ) → length (last_first words n) ≡ n
unfolding last_first
length-last_first words zero = refl
length-last_first words (suc n) = ap suc (length-last_first words n)

-- values popped
pub drop-last_first : (words : List ℕ) (k n : ℕ) → k ≤ n → drop k (last_first words n) ≡ last_first words (n - k)
unfolding last_first
drop-last_first words zero n h = rw sub-zero
drop-last_first words (suc k) zero h = absurd (omega arith)
drop-last_first words (suc k) (suc n) h = rw suc-sub-suc (drop-last_first words k n (omega arith))

pub length_fields : (rest : ℕ) (vs : List ℕ) → length (field_rows rest vs) ≡ length vs
unfolding field_rows
length_fields rest [] = refl
length_fields rest (v ∷ vs) = ap suc (length_fields (suc rest) vs)

-- one field more
fields_snoc : (rest : ℕ) (vs : List ℕ) (v : ℕ) → field_rows rest (vs ++ (v ∷ [])) ≡ field_rows rest vs ++ (field_row v (rest + length vs) ∷ [])
unfolding field_rows
fields_snoc rest [] v = rw add-zero
fields_snoc rest (x ∷ vs) v = rw (fields_snoc (suc rest) vs v, add-suc, suc-add)

tuple_of : (mem : List Row) (vs : List ℕ) → add_tuple mem vs ≡ (mem ++ tuple_rows (length mem) (reverse vs), length mem + length vs)
unfolding add_tuple add tuple_rows field_rows
tuple_of mem [] = rw add-zero
tuple_of mem (v ∷ vs) = simp (tuple_of mem vs, reverse_aux-eq vs (v ∷ []), fields_snoc, length-append, length_fields, length-reverse, append_assoc)

-- the rows of a tuple are those that the machine makes
pub tuple-rows : (mem : List Row) (vs : List ℕ) → add_tuple mem (reverse vs) ≡ (mem ++ tuple_rows (length mem) vs, length mem + length vs)
tuple-rows mem vs = simp (tuple_of, reverse-reverse, length-reverse)
