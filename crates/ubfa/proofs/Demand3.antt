-- Demand 3 of `ubfa_decode` and `ubfa_compare` together.
use Prim.Native.Nat.{◌+◌}
use mathlib.Core.Path.{◌≡◌, refl, ap, ◌∙◌}
use mathlib.Core.Bool.{true, false, cond}
use native.Mathlib.Omega.{arith}
use lib.ListN.{length}
use borrow.Author.Tests.{le-ltb}
use Rattle.format.specs.Answer as A
use Rattle.format.specs.Byte.{same_bytes}
use Rattle.format.specs.Text.{plain}
use Rattle.format.proofs.SameBytes.{same_bytes_lem, same_refl}
use Rattle.demands.proofs.Demand2.{demand2}
use Rattle.demands.proofs.Demand3.{root_term, told, accepted-answer}
use Rattle.ubfa.specs.Answers.{compared_struct}
use Rattle.ubfa.specs.Demand3.{AcceptedCompare}
use Rattle.ubfa.proofs.Accepted.{accepted_of, as_accepted}

pub accepted_compare : AcceptedCompare
unfolding compared_struct
accepted_compare message_a t_a u_a a first zero_a message_b t_b u_b b second zero_b scratch room c scratch' promise =
    let left = as_accepted message_a t_a u_a a first zero_a in
    let right = as_accepted message_b t_b u_b b second zero_b in
    let term_a = root_term message_a u_a (accepted_of a) in
    let term_b = root_term message_b u_b (accepted_of b) in
    let same = same_bytes (plain term_a) (plain term_b) in
    let answer : compared_struct c scratch' ≡ told false same scratch =
    rw (le-ltb (length scratch) (a.rows + b.rows) room) at (promise ∙ accepted-answer message_a t_a u_a (accepted_of a) left message_b t_b u_b (accepted_of b) right scratch) in
    let equal : c.equal ≡ cond same 1 0 = ap (λ (d : A.Compared). d.equal) answer in
    record {
      term_a = term_a;
      term_b = term_b;
      means_a = (demand2 message_a t_a _ u_a left).term (accepted_of a) refl;
      means_b = (demand2 message_b t_b _ u_b right).term (accepted_of b) refl;
      answered = ap (λ (d : A.Compared). d.number) answer;
      equal = λ e. same_bytes_lem (plain term_a) (plain term_b) (grind (arith, equal));
      same = λ e. equal ∙ rw (e, same_refl) refl;
      different = λ h. let other : same ≡ true → ⊥ = λ e. h (same_bytes_lem (plain term_a) (plain term_b) e) in grind (arith, equal, other);
      zero = ap (λ (d : A.Compared). d.scratch) answer;
    }
