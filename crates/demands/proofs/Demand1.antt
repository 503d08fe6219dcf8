-- Demand 1 of `decode`, of `write` and of `compare`.
use Prim.Native.Nat.{ℕ}
use mathlib.Core.Path.{◌≡◌, refl}
use mathlib.Core.Bool.{Bool}
use mathlib.Core.List.{List}
use native.Mathlib.Omega.{arith}
use lib.Seq.{drop-append_seam}
use Rattle.std.specs.Prelude.{Result}
use Rattle.format.specs.Machine as M
use Rattle.format.specs.Machine.{Outcome, refused, accepted, run}
use Rattle.format.specs.Rows.{row_values}
use Rattle.format.specs.Answer.{Tables, limits_of, decode_refusal, decode_result, decode_answer, write_refusal, write_text, write_answer, compare_refusal, compare_answer}
use Rattle.format.proofs.RowCount.{machine-number}
use Rattle.format.proofs.Sizes.{plain_size}
use Rattle.format.proofs.SoundRows.{accepted-rows}
use Rattle.format.specs.declared.refusal.Refusal.{Refusal}
use Rattle.format.specs.declared.refusal.Refused.{Refused}
use Rattle.decoder.specs.Answers.{decoded_as}
use Rattle.decoder.specs.declared.Accepted.{Accepted}
use Rattle.text.specs.Answers.{written_as}
use Rattle.comparison.specs.Answers.{compared_as}
use Rattle.demands.specs.Demand1.{DecodeTouches, WriteTouches, CompareTouches}
use Rattle.demands.proofs.Numbers.{at_least_1}

pub demand1 : (message : List ℕ) (t : Tables) (r : Result Accepted Refused) (u : Tables) → decoded_as r u ≡ decode_answer message t → DecodeTouches t r u
unfolding decoded_as decode_answer decode_refusal decode_result
demand1 message t r u promise = by (run row_values (limits_of t) message) refl
  where
    by : (o : Outcome (M.Result row_values)) → run row_values (limits_of t) message ≡ o → DecodeTouches t r u
    by (refused n p) q =
        let number = machine-number row_values (limits_of t) message n p q in
        record { untouched = λ x e h. grind (arith, number); zero = λ x e h. grind (arith, number) }
    by (accepted k a) q =
        let some = (accepted-rows message (limits_of t) k a q).root in
        record { untouched = λ x e h. grind (arith, some); zero = λ x e h. grind (arith, some) }

pub demand1_write : (message words : List ℕ) (used root : ℕ) (scratch output : List ℕ) (r : Result ℕ Refusal) (scratch' output' : List ℕ) → written_as r scratch' output' ≡ write_answer message words used root scratch output
    → WriteTouches scratch output r scratch' output'
unfolding written_as write_refusal write_text write_answer
demand1_write message words used root scratch output r scratch' output' promise = record {
  unchanged = λ x q. grind (arith, plain_size);
  untouched = λ x q h. grind (arith, plain_size);
  zero = λ x q h. grind (arith, plain_size);
  zero_after = λ n q. grind arith;
  past = λ n q. grind (arith, drop-append_seam);
}

pub demand1_compare : (message_a words_a : List ℕ) (used_a root_a : ℕ) (message_b words_b : List ℕ) (used_b root_b : ℕ) (scratch : List ℕ) (r : Result Bool Refusal) (scratch' : List ℕ)
    → compared_as r scratch' ≡ compare_answer message_a words_a used_a root_a message_b words_b used_b root_b scratch → CompareTouches scratch r scratch'
unfolding compared_as compare_refusal compare_answer
demand1_compare message_a words_a used_a root_a message_b words_b used_b root_b scratch r scratch' promise = record {
  untouched = λ x e u. grind (arith, at_least_1 x);
  zero = λ x e h. grind arith;
  zero_equal = λ e. grind arith;
  zero_different = λ e. grind arith;
}
