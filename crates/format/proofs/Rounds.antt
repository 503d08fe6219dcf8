-- Theorem 7: twenty rounds of `{aa}>a` take 126 bytes and 61 rows; the plain text is 4,194,303 bytes.
use Prim.Native.Nat.{ℕ, zero, suc}
use mathlib.Core.Path.{◌≡◌, refl}
use mathlib.Core.Option.{some}
use mathlib.Core.List.{List, ◌++◌}
use lib.IntN.{pos}
use lib.ListN.{length}
use Rattle.format.specs.Byte.{bytes_of}
use Rattle.format.specs.Term as T
use Rattle.format.specs.Term.{Term, ◌then◌}
use Rattle.format.specs.Text.{plain}
use Rattle.format.specs.Bound.{row_bound, stack_bound, mark_bound}
use Rattle.format.specs.Machine.{Limits, accepted, run, run_free_from, run_free}
use Rattle.format.specs.Meaning.{accepted_value, message_term}
use Rattle.format.specs.Rows.{Row, row_values}
use Rattle.format.proofs.Bench.{machine}
use Rattle.format.proofs.Sizes.{digit_count, natural_size, decimal_size, size, plain_size}

unfoldable pub rounds : ℕ → List ℕ
rounds zero = bytes_of "a$"
rounds (suc n) = bytes_of "{aa}>a" ++ rounds n

-- `1 >a`, n times `{aa}>a`, then `a$`
unfoldable pub message : ℕ → List ℕ
message n = bytes_of "1 >a" ++ rounds n

-- as much room as 01 allows
unfoldable pub roomy : Limits
roomy = record { rows = row_bound; stack = stack_bound; marks = mark_bound }

pub rounds-length : length (message 20) ≡ 126
unfolding message rounds bytes_of
rounds-length = refl

-- all 126 bytes are consumed, 61 rows are made, and the root is the last of them
pub rounds-rows : (rows : List Row) × (run row_values roomy (message 20) ≡ accepted 126 (record { used = 61; root = 60; memory = rows }))
unfolding machine message rounds roomy
rounds-rows = (_, refl)

-- the term after n more rounds, each of which makes a pair of one term
doubled : ℕ → Term → Term
doubled zero t = t
doubled (suc n) t = doubled n (T.tuple (t then t then T.none))

-- the length is computed from the term; the text is never built
pub rounds-text : (t : Term) × (message_term (message 20) ≡ some t) × (length (plain t) ≡ 4194303)
unfolding machine message rounds run_free_from run_free accepted_value message_term doubled digit_count natural_size decimal_size size
rounds-text = let t = doubled 20 (T.int (pos 1)) in (t, refl, plain_size t)
