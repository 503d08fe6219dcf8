-- The rows used of a sound table, the terms that they stand for, and the text of its root.
use Rattle.std.specs.Prelude.{ℕ, List}
use Rattle.format.specs.Rows.{Row, rows_of, row_at, term_at}
use Rattle.format.specs.Term.{Term}
use Rattle.format.specs.Text.{plain}
use Rattle.text.specs.declared.rows.SoundRows.{SoundRows}

abbrev pub rows_used : SoundRows → List Row
rows_used t = rows_of t.used t.rows.now

abbrev pub term_of : SoundRows → ℕ → Term
term_of t i = term_at t.message.now (rows_used t) i

abbrev pub row_used : SoundRows → ℕ → Row
row_used t i = row_at (rows_used t) i

abbrev pub root_text : SoundRows → List ℕ
root_text t = plain (term_of t t.root.0)
