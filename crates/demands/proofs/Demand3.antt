-- Demand 3 of `decode` and `compare` together.
use Prim.Native.Nat.{ℕ, ◌+◌}
use mathlib.Core.Path.{◌≡◌, refl, ap, ◌∙◌}
use mathlib.Core.Bool.{Bool, false, cond}
use mathlib.Core.List.{List}
use native.Mathlib.Omega.{arith}
use lib.ListN.{length, length-replicate}
use lib.Dec.{eqb, ltb}
use lib.Ieee.Bits.{is_true}
use borrow.Author.Tests.{le-ltb, ne_eqb}
use Rattle.std.specs.Prelude.{Result, Ok, Err}
use Rattle.std.specs.Result.{result_or}
use Rattle.format.specs.Byte.{same_bytes}
use Rattle.format.specs.Rows.{rows_of, term_at}
use Rattle.format.specs.Sound.{sound_table}
use Rattle.format.specs.Term.{Term}
use Rattle.format.specs.Text.{plain}
use Rattle.format.specs.Answer as A
use Rattle.format.specs.Answer.{Tables, SameLengths, zeroed, cleared, decode_refusal, decode_result, decode_answer, compare_refusal, compare_answer, tables}
use Rattle.format.proofs.Decoded.{accepts}
use Rattle.format.proofs.SameBytes.{same_bytes_lem, same_refl}
use Rattle.format.proofs.Unchanged.{same-limits}
use Rattle.format.specs.Number.{number_of}
use Rattle.format.specs.declared.refusal.Refusal.{Refusal}
use Rattle.format.specs.declared.refusal.Refused.{Refused}
use Rattle.decoder.specs.Answers.{decoded_as}
use Rattle.decoder.specs.declared.Accepted.{Accepted}
use Rattle.comparison.specs.Answers.{compared_as}
use Rattle.demands.specs.Demand2.{in_terms, machine_says}
use Rattle.demands.specs.Demand3.{AcceptedCompare, comparison_as, comparison_says, comparison_buffers, comparison_leaves}
use Rattle.demands.specs.declared.NotCompared.{NotCompared}
use Rattle.demands.specs.declared.NotCompared.TheVariants.{First, Second, ShortScratch}
use Rattle.demands.proofs.Demand2.{number, demand2}
use Rattle.demands.proofs.Numbers.{at_least_1}

-- the term that the root row stands for, in a table that `decode` left
abbrev pub root_term : List ℕ → Tables → Accepted → Term
root_term message u a = term_at message (rows_of a.used u.rows) a.root.0

-- the answer of `compare` on two accepted messages' tables: 2 where the scratch is too short, otherwise whether the texts are the same
abbrev pub told : Bool → Bool → List ℕ → A.Compared
told short same scratch = cond short (compare_refusal 2 scratch) (record { number = 0; equal = cond same 1 0; scratch = zeroed scratch })

-- `compare`, on the tables that `decode` left of two accepted messages, refuses only a scratch shorter than the rows used of both
pub accepted-answer : (message_a : List ℕ) (t_a u_a : Tables) (a : Accepted) → decoded_as (Ok a) u_a ≡ decode_answer message_a t_a
    → (message_b : List ℕ) (t_b u_b : Tables) (b : Accepted) → decoded_as (Ok b) u_b ≡ decode_answer message_b t_b
    → (scratch : List ℕ) → compare_answer message_a u_a.rows a.used a.root.0 message_b u_b.rows b.used b.root.0 scratch
    ≡ told (ltb (length scratch) (a.used + b.used)) (same_bytes (plain (root_term message_a u_a a)) (plain (root_term message_b u_b b))) scratch
unfolding compare_answer
accepted-answer message_a t_a u_a a first message_b t_b u_b b second scratch =
    let bound_a = (accepts message_a t_a (number message_a t_a u_a a first)).in_bound in
    let bound_b = (accepts message_b t_b (number message_b t_b u_b b second)).in_bound in
    let sound_a = is_true (sound_table message_a u_a.rows a.used a.root.0) ((demand2 message_a t_a _ u_a first).sound a refl) in
    let sound_b = is_true (sound_table message_b u_b.rows b.used b.root.0) ((demand2 message_b t_b _ u_b second).sound b refl) in
    rw (bound_a, bound_b, sound_a, sound_b) refl

pub accepted_compare : AcceptedCompare
unfolding compared_as compare_refusal
accepted_compare message_a t_a u_a a first message_b t_b u_b b second scratch room c scratch' promise =
    let term_a = root_term message_a u_a a in
    let term_b = root_term message_b u_b b in
    let answer : compared_as c scratch' ≡ told false (same_bytes (plain term_a) (plain term_b)) scratch =
    rw (le-ltb (length scratch) (a.used + b.used) room) at (promise ∙ accepted-answer message_a t_a u_a a first message_b t_b u_b b second scratch) in
    let equal = ap (λ (d : A.Compared). d.equal) answer in
    record {
      term_a = term_a;
      term_b = term_b;
      means_a = (demand2 message_a t_a _ u_a first).term a refl;
      means_b = (demand2 message_b t_b _ u_b second).term b refl;
      answer = answer;
      never = λ e q. grind (arith, at_least_1 e);
      equal = λ e. same_bytes_lem (plain term_a) (plain term_b) (grind (arith, equal));
      same = λ e. let one = rw (e, same_refl) at equal in grind (arith, one);
    }

-- a refusal's number is not 0
refused-number : (r : Refusal) → eqb (number_of r) 0 ≡ false
refused-number r = ne_eqb (number_of r) 0 (λ z. omega (arith, at_least_1 r))

-- rows lent together with the stack, the marks and the registers of t
abbrev lent : List ℕ → Tables → Tables
lent rows t = tables rows t.stack t.marks t.registers

-- those that an accepted message leaves have the lengths that they had
same_memory : (message : List ℕ) (t u : Tables) (a : Accepted) → decoded_as (Ok a) u ≡ decode_answer message t
    → (rows : List ℕ) → SameLengths (lent rows u) (lent rows t)
unfolding decoded_as decode_result cleared zeroed
same_memory message t u a promise rows =
    let known = accepts message t (number message t u a promise) in
    let left : u ≡ cleared t known.result.memory = ap (λ (d : A.Decoded). d.tables) (promise ∙ known.answer) in
    rw left (record { rows = refl; stack = length-replicate _ _; marks = length-replicate _ _; registers = length-replicate _ _ })

-- and the machine looks at nothing but lengths
same-machine : (message : List ℕ) (t t' : Tables) → SameLengths t t' → machine_says message t ≡ machine_says message t'
unfolding machine_says
same-machine message t t' s = rw (s.registers, same-limits t t' s) refl

-- two messages decoded with the same working memory and compared: what is answered, and the buffers left
module _ (message_a rows message_b : List ℕ) (t : Tables) (scratch : List ℕ) where
  abbrev pub Meets : Result Bool NotCompared → List ℕ → Tables → List ℕ → Type 0
  Meets r rows' u scratch' =
      (comparison_as r ≡ comparison_says (machine_says message_a (lent rows t)) (machine_says message_b t) (length scratch))
      × (comparison_buffers rows' u scratch' ≡ comparison_leaves message_a rows message_b t scratch)

  -- the answer to the first, which leaves u_a
  module _ (first_answer : Result Accepted Refused) (u_a : Tables) (first : decoded_as first_answer u_a ≡ decode_answer message_a (lent rows t)) where
    pub first-refused : (x : Refused) → first_answer ≡ Err x → Meets (Err (First x)) u_a.rows (lent t.rows u_a) scratch
    unfolding comparison_as comparison_says comparison_leaves in_terms decoded_as decode_refusal
    first-refused x e =
        let refusal : decoded_as (Err x) u_a ≡ decode_answer message_a (lent rows t) = rw e at first in
        (rw (← (demand2 message_a (lent rows t) (Err x) u_a refusal).machine) refl, rw (← refusal, refused-number x.refusal) refl)

    -- the first is accepted; the answer to the second, which leaves u_b
    module _ (a : Accepted) (e : first_answer ≡ Ok a) (second_answer : Result Accepted Refused) (u_b : Tables) (second : decoded_as second_answer u_b ≡ decode_answer message_b (lent t.rows u_a)) where
      acceptance : decoded_as (Ok a) u_a ≡ decode_answer message_a (lent rows t)
      acceptance = rw e at first

      -- what the machine says of each, in terms
      says_a : in_terms message_a (Ok a) u_a ≡ machine_says message_a (lent rows t)
      says_a = (demand2 message_a (lent rows t) (Ok a) u_a acceptance).machine

      says_b : in_terms message_b second_answer u_b ≡ machine_says message_b t
      says_b = (demand2 message_b (lent t.rows u_a) second_answer u_b second).machine ∙ same-machine message_b (lent t.rows u_a) t (same_memory message_a (lent rows t) u_a a acceptance t.rows)

      pub second-refused : (x : Refused) → second_answer ≡ Err x → Meets (Err (Second x)) u_a.rows u_b scratch
      unfolding comparison_as comparison_says comparison_leaves in_terms decoded_as decode_refusal
      second-refused x f =
          let refusal : decoded_as (Err x) u_b ≡ decode_answer message_b (lent t.rows u_a) = rw f at second in
          (rw (← says_a, ← says_b, f) refl, rw (← acceptance, ← refusal, refused-number x.refusal) refl)

      -- both are accepted; the answer c of `compare`, which leaves scratch'
      pub both-accepted : (b : Accepted) → second_answer ≡ Ok b
          → (c : Result Bool Refusal) (scratch' : List ℕ) → compared_as c scratch' ≡ compare_answer message_a u_a.rows a.used a.root.0 message_b u_b.rows b.used b.root.0 scratch
          → Meets (result_or c (Err ShortScratch)) u_a.rows u_b scratch'
      unfolding comparison_as comparison_says comparison_leaves in_terms decoded_as compared_as compare_refusal
      both-accepted b f c scratch' promise =
          let other : decoded_as (Ok b) u_b ≡ decode_answer message_b (lent t.rows u_a) = rw f at second in
          let answer = promise ∙ accepted-answer message_a (lent rows t) u_a a acceptance message_b (lent t.rows u_a) u_b b other scratch in
          (rw (← says_a, ← says_b, f) (grind (arith, at_least_1, answer)), rw (← acceptance, ← other, ← promise) (grind arith))
