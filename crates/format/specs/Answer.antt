-- 01, 'Refusal numbers', 'Plain text' and 'Sensor words': for each public function its whole answer,
-- the numbers given and the end contents of every buffer lent for writing, from what is lent and the numbers passed.
use Rattle.std.specs.Prelude.{ℕ, ◌+◌, ◌-◌, min, ◌≡◌, Bool, ◌&&◌, ◌||◌, not, cond, List, [], ◌++◌, length, drop, replicate, ltb}
use Rattle.format.specs.Bound.{message_bound, stack_bound, mark_bound, register_words}
use Rattle.format.specs.Byte.{same_bytes}
use Rattle.format.specs.Text.{plain}
use Rattle.format.specs.Machine as M
use Rattle.format.specs.Machine.{Limits, Result, refused, accepted, run}
use Rattle.format.specs.Rows.{Row, row_values, term_at, words_of, rows_of, row_room}
use Rattle.format.specs.Sound.{sound_table}
use Rattle.format.specs.Word.{Word, no_word, word_of_term}

-- refusal 1: a message slice over its bound
unfoldable pub over_bound : List ℕ → Bool
over_bound message = ltb message_bound (length message)

-- a buffer with every word zero
unfoldable pub zeroed : List ℕ → List ℕ
zeroed words = replicate (length words) 0

-- the tables lent to the decoder; marks are 01's noted depths
pub record Tables : Type 0 where
  pub rows : List ℕ
  pub stack : List ℕ
  pub marks : List ℕ
  pub registers : List ℕ

-- the four of them
abbrev pub tables : List ℕ → List ℕ → List ℕ → List ℕ → Tables
tables rows stack marks registers = record { rows = rows; stack = stack; marks = marks; registers = registers }

-- tables of the same lengths
pub record SameLengths (t t' : Tables) : Type 0 where
  pub rows : length t.rows ≡ length t'.rows
  pub stack : length t.stack ≡ length t'.stack
  pub marks : length t.marks ≡ length t'.marks
  pub registers : length t.registers ≡ length t'.registers

-- 0, bytes consumed, root, rows used; or a refusal's number, its place, 0, 0; and the tables at the end
pub record Decoded : Type 0 where
  pub number : ℕ
  pub place : ℕ
  pub root : ℕ
  pub used : ℕ
  pub tables : Tables

-- rows: words divided by four; stack and marks: their lent length; each at most its bound
unfoldable pub limits_of : Tables → Limits
limits_of t = record { rows = row_room t.rows; stack = min (length t.stack) stack_bound; marks = min (length t.marks) mark_bound }

-- rows at the head of a table of words, and zeros past them
unfoldable pub rows_in : List ℕ → List Row → List ℕ
rows_in words rows = words_of rows ++ replicate (length words - length (words_of rows)) 0

-- the tables once reading has started: with the rows of an accepted message, or with none
unfoldable pub cleared : Tables → List Row → Tables
cleared t rows = record { rows = rows_in t.rows rows; stack = zeroed t.stack; marks = zeroed t.marks; registers = zeroed t.registers }

-- a refusal that leaves the tables t
unfoldable pub decode_refusal : ℕ → ℕ → Tables → Decoded
decode_refusal number place t = record { number = number; place = place; root = 0; used = 0; tables = t }

-- what the machine says, and the tables that it leaves
unfoldable pub decode_result : Tables → M.Outcome (Result row_values) → Decoded
decode_result t (refused number place) = decode_refusal number place (cleared t [])
decode_result t (accepted consumed r) = record { number = 0; place = consumed; root = r.root; used = r.used; tables = cleared t r.memory }

-- decode: 1, 2, both of which touch nothing, then the machine at rows
unfoldable pub decode_answer : List ℕ → Tables → Decoded
decode_answer message t =
    cond (over_bound message) (decode_refusal 1 0 t)
    (cond (ltb (length t.registers) register_words) (decode_refusal 2 0 t)
    (decode_result t (run row_values (limits_of t) message)))

-- 0 and the bytes written, or a refusal's number and 0; and the buffers at the end
pub record Written : Type 0 where
  pub number : ℕ
  pub bytes : ℕ
  pub scratch : List ℕ
  pub output : List ℕ

-- a refusal changes no output byte
unfoldable pub write_refusal : ℕ → List ℕ → List ℕ → Written
write_refusal number scratch output = record { number = number; bytes = 0; scratch = scratch; output = output }

-- 15, or a text at the head of the output
unfoldable pub write_text : List ℕ → List ℕ → List ℕ → Written
write_text text scratch output =
    cond (ltb (length output) (length text)) (write_refusal 15 (zeroed scratch) output)
    (record { number = 0; bytes = length text; scratch = zeroed scratch; output = text ++ drop (length text) output })

-- write: 1, 2, 16, 15; the scratch is zero after all but 1 and 2
unfoldable pub write_answer : List ℕ → List ℕ → ℕ → ℕ → List ℕ → List ℕ → Written
write_answer message words used root scratch output =
    cond (over_bound message) (write_refusal 1 scratch output)
    (cond (ltb (length scratch) used) (write_refusal 2 scratch output)
    (cond (not (sound_table message words used root)) (write_refusal 16 (zeroed scratch) output)
    (write_text (plain (term_at message (rows_of used words) root)) scratch output)))

-- 0 and 1 for equal, 0 and 0 for different, or a refusal's number and 0; and the scratch at the end
pub record Compared : Type 0 where
  pub number : ℕ
  pub equal : ℕ
  pub scratch : List ℕ

-- a refusal that leaves such a scratch
unfoldable pub compare_refusal : ℕ → List ℕ → Compared
compare_refusal number scratch = record { number = number; equal = 0; scratch = scratch }

-- compare: 1, 2, 16; then equal where the plain texts of the two roots' terms are the same bytes
unfoldable pub compare_answer : List ℕ → List ℕ → ℕ → ℕ → List ℕ → List ℕ → ℕ → ℕ → List ℕ → Compared
compare_answer message_a words_a used_a root_a message_b words_b used_b root_b scratch =
    let text_a = plain (term_at message_a (rows_of used_a words_a) root_a) in
    let text_b = plain (term_at message_b (rows_of used_b words_b) root_b) in
    cond (over_bound message_a || over_bound message_b) (compare_refusal 1 scratch)
    (cond (ltb (length scratch) (used_a + used_b)) (compare_refusal 2 scratch)
    (cond (not (sound_table message_a words_a used_a root_a && sound_table message_b words_b used_b root_b)) (compare_refusal 16 (zeroed scratch))
    (record { number = 0; equal = cond (same_bytes text_a text_b) 1 0; scratch = zeroed scratch })))

-- read_word: 1, 16, then 18, 19, 20; the row stands in the root's place, and nothing is lent for writing
unfoldable pub word_answer : List ℕ → List ℕ → ℕ → ℕ → ℕ → Word
word_answer message words used root k =
    cond (over_bound message) (no_word 1)
    (cond (not (sound_table message words used root)) (no_word 16)
    (word_of_term (term_at message (rows_of used words) root) k))
