-- 01, 'Plain text', refusal 16: which tables are sound, in four pieces; and which terms they can stand for.
use Rattle.std.specs.Prelude.{ℕ, ◌+◌, Bool, true, false, ◌&&◌, ◌||◌, not, cond, List, [], ◌∷◌, ◌++◌, pos, length, eqb, ltb, leb}
use Prim.Native.Char.{code}
use Rattle.format.specs.Lex.{in_range}
use Rattle.format.specs.Term as T
use Rattle.format.specs.Term.{Term, Terms, ◌then◌}
use Rattle.format.specs.Rows.{Row, integer_kind, atom_kind, string_kind, binary_kind, nil_kind, cons_kind, end_kind, field_kind, tag_kind, row_at, is_list_kind, is_tuple_kind, span_of, rows_of, row_room}

-- bytes as they may stand between two quotes: no bad escape and no unescaped closing quote
unfoldable pub spelled : ℕ → Bool → List ℕ → Bool
spelled quote escaped [] = not escaped
spelled quote true (c ∷ r) = (eqb c (code "\\") || eqb c quote) && spelled quote false r
spelled quote false (c ∷ r) = not (eqb c quote) && spelled quote (eqb c (code "\\")) r

-- a span inside the slice, in arithmetic that does not wrap
unfoldable pub in_slice : List ℕ → ℕ → ℕ → Bool
in_slice message start n = leb (start + n) (length message)

-- a span inside the slice, spelled as between two quotes
unfoldable pub spelled_in : List ℕ → ℕ → ℕ → ℕ → Bool
spelled_in message quote start n = in_slice message start n && spelled quote false (span_of message start n)

-- piece 1: no more rows claimed than the table holds, nor than the bound
unfoldable pub count_fits : List ℕ → ℕ → Bool
count_fits words used = leb used (row_room words)

-- piece 2: the root is among the rows claimed
unfoldable pub root_among : ℕ → ℕ → Bool
root_among used root = ltb root used

-- piece 3: row i by its own words and bytes: a known kind, spare words zero, spans and escapes, references to earlier rows only
unfoldable pub sound_row : List ℕ → ℕ → Row → Bool
sound_row message i r =
    let a = r.first in
    let b = r.second in
    let c = r.third in
    cond (eqb r.kind integer_kind) (eqb c 0)
    (cond (eqb r.kind atom_kind) (eqb c 0 && spelled_in message (code "'") a b)
    (cond (eqb r.kind string_kind) (eqb c 0 && spelled_in message (code "\"") a b)
    (cond (eqb r.kind binary_kind) (eqb c 0 && in_slice message a b)
    (cond (eqb r.kind nil_kind) (eqb a 0 && eqb b 0 && eqb c 0)
    (cond (eqb r.kind cons_kind) (eqb c 0 && ltb a i && ltb b i)
    (cond (eqb r.kind end_kind) (eqb a 0 && eqb b 0 && eqb c 0)
    (cond (eqb r.kind field_kind) (eqb c 0 && ltb a i && ltb b i)
    (cond (eqb r.kind tag_kind) (spelled_in message (code "`") a b && ltb c i)
    false))))))))

-- piece 4: the rest of a list cell is a list, the rest of a tuple field a tuple; `rest` is the kind of that row
unfoldable pub sound_rest : ℕ → ℕ → Bool
sound_rest kind rest = cond (eqb kind cons_kind) (is_list_kind rest) (cond (eqb kind field_kind) (is_tuple_kind rest) true)

-- pieces 3 and 4 at each of some rows, after the rows `earlier`
unfoldable pub sound_after : List ℕ → List Row → List Row → Bool
sound_after message earlier [] = true
sound_after message earlier (r ∷ rows) =
    sound_row message (length earlier) r && sound_rest r.kind (row_at earlier r.second).kind && sound_after message (earlier ++ (r ∷ [])) rows

-- pieces 3 and 4 at every row used
unfoldable pub sound_rows : List ℕ → List Row → Bool
sound_rows message rows = sound_after message [] rows

-- refusal 16 is given exactly where this fails: the words lent, the rows claimed, the root
unfoldable pub sound_table : List ℕ → List ℕ → ℕ → ℕ → Bool
sound_table message words used root = count_fits words used && root_among used root && sound_rows message (rows_of used words)

-- the terms that a message can spell, and that the rows of a sound table stand for
unfoldable mutual
  pub sound_term : Term → Bool
  sound_term (T.int z) = in_range z
  sound_term (T.atom b) = spelled (code "'") false b
  sound_term (T.string b) = spelled (code "\"") false b
  sound_term (T.binary b) = in_range (pos (length b))
  sound_term (T.list ts) = sound_terms ts
  sound_term (T.tuple ts) = sound_terms ts
  sound_term (T.tag b t) = spelled (code "`") false b && sound_term t

  pub sound_terms : Terms → Bool
  sound_terms T.none = true
  sound_terms (t then ts) = sound_term t && sound_terms ts
