-- 01, refusal 16: a row by its own words and bytes, in two parts that are asked one after the other: its words, and how its text is spelled.
use Rattle.std.specs.Prelude.{ℕ, Bool, true, false, ◌&&◌, cond, List, eqb, ltb}
use Prim.Native.Char.{code}
use Rattle.format.specs.Rows.{Row, integer_kind, atom_kind, string_kind, binary_kind, nil_kind, cons_kind, end_kind, field_kind, tag_kind}
use Rattle.format.specs.Sound.{in_slice, spelled_in}

-- row i by its words: a known kind, spare words zero, a span inside the slice, references to earlier rows only
unfoldable pub sound_words : List ℕ → ℕ → Row → Bool
sound_words message i r =
    let a = r.first in
    let b = r.second in
    let c = r.third in
    cond (eqb r.kind integer_kind) (eqb c 0)
    (cond (eqb r.kind atom_kind) (eqb c 0 && in_slice message a b)
    (cond (eqb r.kind string_kind) (eqb c 0 && in_slice message a b)
    (cond (eqb r.kind binary_kind) (eqb c 0 && in_slice message a b)
    (cond (eqb r.kind nil_kind) (eqb a 0 && eqb b 0 && eqb c 0)
    (cond (eqb r.kind cons_kind) (eqb c 0 && ltb a i && ltb b i)
    (cond (eqb r.kind end_kind) (eqb a 0 && eqb b 0 && eqb c 0)
    (cond (eqb r.kind field_kind) (eqb c 0 && ltb a i && ltb b i)
    (cond (eqb r.kind tag_kind) (in_slice message a b && ltb c i)
    false))))))))

-- the quote of a kind's texts; 0 for a kind that has none
unfoldable pub quote_of : ℕ → ℕ
quote_of k = cond (eqb k atom_kind) (code "'") (cond (eqb k string_kind) (code "\"") (cond (eqb k tag_kind) (code "`") 0))

-- a row by its text: that of an atom, a string or a tag is spelled as between its quotes
unfoldable pub sound_text : List ℕ → Row → Bool
sound_text message r = cond (eqb (quote_of r.kind) 0) true (spelled_in message (quote_of r.kind) r.first r.second)
