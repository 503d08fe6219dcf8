-- What a run leaves, and the tables after it.
use Rattle.std.specs.Prelude.{ℕ, ◌*◌, List, Result, Ok, Err}
use Rattle.format.specs.Machine as M
use Rattle.format.specs.Machine.{Outcome, refused, accepted}
use Rattle.format.specs.Number.{number_of}
use Rattle.format.specs.Rows.{row_words, row_values}
use Rattle.format.specs.Answer.{Tables, zeroed, rows_in}
use Rattle.table.specs.Words.{cleared_from}
use Rattle.format.specs.declared.refusal.Refused.{Refused}
use Rattle.decoder.specs.declared.Accepted.{Accepted}

-- what a run leaves: the root, the rows used and the words of the row table, as far as rows are used
pub record Left : Type 0 where
  pub root : ℕ
  pub used : ℕ
  pub words : List ℕ

-- as the run answers it
unfoldable pub left_as : Result Accepted Refused → List ℕ → Outcome Left
left_as (Ok a) words = accepted a.consumed (record { root = a.root.0; used = a.used; words = cleared_from (a.used * row_words) words })
left_as (Err r) words = refused (number_of r.refusal) r.place.0

-- as the machine's run gives it
unfoldable pub left_by : List ℕ → Outcome (M.Result row_values) → Outcome Left
left_by words (refused n p) = refused n p
left_by words (accepted consumed r) = accepted consumed (record { root = r.root; used = r.used; words = rows_in words r.memory })

-- the rows after a run: those of an accepted message are left
abbrev pub settled_rows : Result Accepted Refused → List ℕ → List ℕ
settled_rows (Ok a) rows = cleared_from (a.used * row_words) rows
settled_rows (Err r) rows = zeroed rows

-- the tables after a run: nothing else is
unfoldable pub settled : Result Accepted Refused → Tables → Tables
settled r t = record { rows = settled_rows r t.rows; stack = zeroed t.stack; marks = zeroed t.marks; registers = zeroed t.registers }
