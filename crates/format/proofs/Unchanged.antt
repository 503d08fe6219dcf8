-- Theorem 5 of the whole answer: bytes after the `$` of an accepted message, and the tables' old contents, change nothing.
use Prim.Native.Nat.{ℕ, ◌≤◌}
use mathlib.Core.Path.{◌≡◌, refl, ap, sym, ◌∙◌}
use mathlib.Core.List.{List, [], ◌++◌}
use native.Mathlib.Omega.{arith}
use lib.ListN.{length}
use borrow.Author.Tests.{le-ltb}
use Rattle.format.specs.Bound.{message_bound}
use Rattle.format.specs.Machine.{Outcome, Result, refused, accepted, run}
use Rattle.format.specs.Rows.{Row, row_values, row_room}
use Rattle.format.specs.Answer.{Tables, SameLengths, Decoded, over_bound, zeroed, limits_of, rows_in, cleared, decode_refusal, decode_result, decode_answer}
use Rattle.format.proofs.Decoded.{accepts}
use Rattle.format.proofs.Suffix.{rest_unread}

module _ (t t' : Tables) (s : SameLengths t t') where
  pub same-limits : limits_of t ≡ limits_of t'
  unfolding limits_of row_room
  same-limits = rw (s.rows, s.stack, s.marks) refl

  same-cleared : (rows : List Row) → cleared t rows ≡ cleared t' rows
  unfolding cleared zeroed rows_in
  same-cleared rows = rw (s.rows, s.stack, s.marks, s.registers) refl

  same-result : (o : Outcome (Result row_values)) → decode_result t o ≡ decode_result t' o
  unfolding decode_result
  same-result (refused n p) = rw (same-cleared []) refl
  same-result (accepted k r) = rw (same-cleared r.memory) refl

  -- old contents change nothing of any answer but 1 and 2, which leave the tables as lent
  pub old_contents : (message : List ℕ) → ¬ ((decode_answer message t).number ≡ 1) → ¬ ((decode_answer message t).number ≡ 2) → decode_answer message t ≡ decode_answer message t'
  unfolding decode_answer decode_refusal
  old_contents message not1 not2 = grind (arith, not1, not2, s.registers, same-limits, same-result (run row_values (limits_of t') message))

-- bytes after the `$` change nothing
later-bytes : (x y z : List ℕ) (t : Tables) → (decode_answer (x ++ y) t).number ≡ 0 → (decode_answer (x ++ y) t).place ≡ length x
    → length (x ++ z) ≤ message_bound → decode_answer (x ++ z) t ≡ decode_answer (x ++ y) t
unfolding decode_answer decode_result over_bound
later-bytes x y z t n p h =
    let a = accepts (x ++ y) t n in
    let here : a.consumed ≡ length x = ap (λ (d : Decoded). d.place) (sym a.answer) ∙ p in
    let ran : run row_values (limits_of t) (x ++ y) ≡ accepted (length x) a.result = rw here at a.ran in
    rw (le-ltb message_bound (length (x ++ z)) h, a.in_bound, rest_unread row_values (limits_of t) x y z a.result ran, ran) refl

-- 01: if a message is accepted, changing bytes after its `$`, or the tables' old contents, changes nothing
pub unchanged : (x y z : List ℕ) (t t' : Tables) → SameLengths t t' → length (x ++ z) ≤ message_bound
    → (decode_answer (x ++ y) t).number ≡ 0 → (decode_answer (x ++ y) t).place ≡ length x → decode_answer (x ++ z) t' ≡ decode_answer (x ++ y) t
unchanged x y z t t' s h n p =
    let same : decode_answer (x ++ z) t ≡ decode_answer (x ++ y) t = later-bytes x y z t n p h in
    let zero : (decode_answer (x ++ z) t).number ≡ 0 = rw same n in
    sym (old_contents t t' s (x ++ z) (λ e. omega (arith, zero, e)) (λ e. omega (arith, zero, e))) ∙ same
