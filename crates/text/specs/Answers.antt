-- 01, 'Plain text': the paper's number and values for what `write` answers, and the buffers that it leaves.
use Rattle.std.specs.Prelude.{ℕ, cond, List, Result, Ok, Err}
use Rattle.format.specs.Answer as A
use Rattle.format.specs.Answer.{zeroed, write_refusal, write_text}
use Rattle.format.specs.Number.{number_of}
use Rattle.format.specs.Rows.{Row, term_at}
use Rattle.format.specs.Sound.{sound_rows}
use Rattle.format.specs.Text.{plain}
use Rattle.format.specs.declared.refusal.Refusal.{Refusal}

-- 0 and the bytes written, or a refusal's number and 0
unfoldable pub written_as : Result ℕ Refusal → List ℕ → List ℕ → A.Written
written_as (Ok n) scratch output = record { number = 0; bytes = n; scratch = scratch; output = output }
written_as (Err refusal) scratch output = write_refusal (number_of refusal) scratch output

-- for rows among which the root is: 16 where they are not sound, else as `write_text`
unfoldable pub write_rows : List ℕ → List Row → ℕ → List ℕ → List ℕ → A.Written
write_rows message rows root scratch output =
    cond (sound_rows message rows) (write_text (plain (term_at message rows root)) scratch output) (write_refusal 16 (zeroed scratch) output)
