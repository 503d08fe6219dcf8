-- 01, 'Sensor words': the paper's number and value for what `read_word` answers.
use Rattle.std.specs.Prelude.{ℤ, Result, Ok, Err}
use Rattle.format.specs.Number.{number_of}
use Rattle.format.specs.Word.{Word, no_word}
use Rattle.format.specs.declared.refusal.Refusal.{Refusal}

-- 0 and the word, or a refusal's number and 0
unfoldable pub word_as : Result ℤ Refusal → Word
word_as (Ok value) = record { number = 0; value = value }
word_as (Err refusal) = no_word (number_of refusal)
