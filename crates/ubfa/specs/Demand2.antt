-- Demand 2's last sentence of the C interface: from a message's bytes to what `ubfa_read_word` answers.
use Rattle.std.specs.Prelude.{ℕ, ◌*◌, ◌/◌, ◌%◌, ◌≤◌, ◌<◌, ◌≡◌, List, length, take, drop}
use Rattle.std.proofs.Math.Option.{some}
use Rattle.format.specs.Answer.{Tables, decode_answer, word_answer}
use Rattle.format.specs.Rows.{rows_of, term_at}
use Rattle.format.specs.Term.{binary, tag}
use Rattle.format.specs.Word.{Format, formats, format_in, word_of}
use Rattle.ubfa.specs.Answers.{decoded_struct, word_struct}
use Rattle.ubfa.specs.declared.UbfaDecoded.{UbfaDecoded}
use Rattle.ubfa.specs.declared.UbfaWord.{UbfaWord}

-- w was answered for word k of a tag over the binary of these bytes, where the tag's name stands for the format f
pub record ReadsWord (f : Format) (bytes : List ℕ) (k : ℕ) (w : UbfaWord) : Type 0 where
  -- as many bytes as the width says, from k times as many on, joined in the order that the name says, for i in two's complement
  pub number : length bytes % f.width ≡ 0 → k < length bytes / f.width → w.number ≡ 0
  pub value : length bytes % f.width ≡ 0 → k < length bytes / f.width → w.value ≡ word_of f (take f.width (drop (k * f.width) bytes))
  -- past the last word
  pub past : length bytes % f.width ≡ 0 → length bytes / f.width ≤ k → w.number ≡ 20
  -- bytes that are no whole number of words
  pub uneven : (length bytes % f.width ≡ 0 → ⊥) → w.number ≡ 19

-- for any message that `ubfa_decode` answers with 0, with tables of any lengths and any old contents, and any row at which a tag of a known name over a binary stands:
-- `ubfa_read_word`, on the message, the row table as left and the rows answered, reads the words of that binary
abbrev pub AcceptedWords : Type 0
AcceptedWords =
    (message : List ℕ) (t u : Tables) (a : UbfaDecoded) → decoded_struct a u ≡ decode_answer message t → a.number ≡ 0
    → (row : ℕ) (name bytes : List ℕ) → term_at message (rows_of a.rows u.rows) row ≡ tag name (binary bytes)
    → (f : Format) → format_in formats name ≡ some f
    → (k : ℕ) (w : UbfaWord) → word_struct w ≡ word_answer message u.rows a.rows row k
    → ReadsWord f bytes k w
