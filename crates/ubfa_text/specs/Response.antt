-- 01, 'The manual pages and what we take': what the program answers to a message, by its bytes alone.
use Rattle.std.specs.Prelude.{ℕ, ◌*◌, ◌≤◌, cond, List, length, take, replicate, ltb, Result, Ok, Err, IfOk}
use Rattle.format.specs.Answer.{Tables, tables}
use Rattle.format.specs.Machine as M
use Rattle.format.specs.Machine.{Outcome, refused, accepted}
use Rattle.format.specs.Meaning.{term_values}
use Rattle.format.specs.Number.{number_of}
use Rattle.format.specs.Rows.{row_words}
use Rattle.format.specs.Text.{plain}
use Rattle.format.specs.declared.refusal.Refused.{Refused}

-- 1,024 rows, 256 stack words, 64 noted depths, 256 register words
unfoldable pub program_tables : Tables
program_tables = tables (replicate (1024 * row_words) 0) (replicate 256 0) (replicate 64 0) (replicate 256 0)

-- a line of output: a plain text, or a refusal's number and place
pub data Line : Type 0 where
  text : List ℕ → Line
  refusal : ℕ → ℕ → Line

-- what an answer writes, with the output left
unfoldable pub line : Result ℕ Refused → List ℕ → Line
line (Ok n) output = text (take n output)
line (Err e) output = refusal (number_of e.refusal) e.place.0

-- what it has to be where the output has so many bytes: the machine's refusal, 15 at 0, or the full plain text of the term
unfoldable pub line_says : Outcome (M.Result term_values) → ℕ → Line
line_says (refused number place) room = refusal number place
line_says (accepted consumed r) room = cond (ltb room (length (plain r.root))) (refusal 15 0) (text (plain r.root))

-- the bytes of the text lie in the output
abbrev pub InOutput : Result ℕ Refused → List ℕ → Type 0
InOutput r output = IfOk r (λ n. n ≤ length output)
