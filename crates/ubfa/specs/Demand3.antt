-- Demand 3 of the C interface: from the bytes of two messages to what `ubfa_compare` answers.
use Rattle.std.specs.Prelude.{ℕ, ◌+◌, ◌≤◌, ◌≡◌, List, length}
use Rattle.std.proofs.Math.Option.{some}
use Rattle.format.specs.Answer.{Tables, zeroed, decode_answer, compare_answer}
use Rattle.format.specs.Meaning.{message_term}
use Rattle.format.specs.Term.{Term}
use Rattle.format.specs.Text.{plain}
use Rattle.ubfa.specs.Answers.{decoded_struct, compared_struct}
use Rattle.ubfa.specs.declared.UbfaDecoded.{UbfaDecoded}
use Rattle.ubfa.specs.declared.UbfaCompared.{UbfaCompared}

-- two messages were compared with the answer c, and the scratch was left as scratch'
pub record ComparesTexts (message_a message_b scratch : List ℕ) (c : UbfaCompared) (scratch' : List ℕ) : Type 0 where
  -- the terms of the messages, by their bytes alone
  pub term_a : Term
  pub term_b : Term
  pub means_a : message_term message_a ≡ some term_a
  pub means_b : message_term message_b ≡ some term_b
  -- never a refusal
  pub answered : c.number ≡ 0
  -- 1 exactly where their full plain texts are the same bytes, otherwise 0
  pub equal : c.equal ≡ 1 → plain term_a ≡ plain term_b
  pub same : plain term_a ≡ plain term_b → c.equal ≡ 1
  pub different : (plain term_a ≡ plain term_b → ⊥) → c.equal ≡ 0
  -- the scratch is zero
  pub zero : scratch' ≡ zeroed scratch

-- for any two messages that `ubfa_decode` answers with 0, each with tables of any lengths and any old contents, and any scratch of at least the rows used of both:
-- `ubfa_compare`, on the messages, the row tables as left, and the rows and roots answered, compares the full plain texts of the two messages' terms
abbrev pub AcceptedCompare : Type 0
AcceptedCompare =
    (message_a : List ℕ) (t_a u_a : Tables) (a : UbfaDecoded) → decoded_struct a u_a ≡ decode_answer message_a t_a → a.number ≡ 0
    → (message_b : List ℕ) (t_b u_b : Tables) (b : UbfaDecoded) → decoded_struct b u_b ≡ decode_answer message_b t_b → b.number ≡ 0
    → (scratch : List ℕ) → a.rows + b.rows ≤ length scratch
    → (c : UbfaCompared) (scratch' : List ℕ) → compared_struct c scratch' ≡ compare_answer message_a u_a.rows a.rows a.root message_b u_b.rows b.rows b.root scratch
    → ComparesTexts message_a message_b scratch c scratch'
