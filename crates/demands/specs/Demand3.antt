-- Demand 3: two messages that the decoder accepted, whatever their registers, sharing and tables: the comparison, on the shared rows, never refuses, and says
-- "equal" exactly when the full plain texts of the two terms are the same bytes, even where no buffer could hold those texts.
use Rattle.std.specs.Prelude.{ℕ, ◌+◌, ◌≤◌, ◌≡◌, Bool, true, cond, List, length, eqb, ltb, Result, Ok, Err}
use Rattle.std.proofs.Math.Option.{some}
use Rattle.format.specs.Byte.{same_bytes}
use Rattle.format.specs.Machine as M
use Rattle.format.specs.Machine.{Outcome, refused, accepted}
use Rattle.format.specs.Meaning.{term_values, message_term}
use Rattle.format.specs.Number.{number_of}
use Rattle.format.specs.Term.{Term}
use Rattle.format.specs.Text.{plain}
use Rattle.format.specs.Answer.{Tables, zeroed, decode_answer, compare_answer, tables}
use Rattle.format.specs.declared.refusal.Refusal.{Refusal}
use Rattle.decoder.specs.Answers.{decoded_as}
use Rattle.decoder.specs.declared.Accepted.{Accepted}
use Rattle.comparison.specs.Answers.{compared_as}
use Rattle.demands.specs.declared.NotCompared.{NotCompared}
use Rattle.demands.specs.declared.NotCompared.TheVariants.{First, Second, ShortScratch}

-- two messages were compared with the answer c, and the scratch was left as scratch'
pub record ComparesTexts (message_a message_b scratch : List ℕ) (c : Result Bool Refusal) (scratch' : List ℕ) : Type 0 where
  -- the terms of the messages, by their bytes alone
  pub term_a : Term
  pub term_b : Term
  pub means_a : message_term message_a ≡ some term_a
  pub means_b : message_term message_b ≡ some term_b
  -- 0 and 1 where their full plain texts are the same bytes, otherwise 0 and 0; the scratch is zero
  pub answer : compared_as c scratch' ≡ record { number = 0; equal = cond (same_bytes (plain term_a) (plain term_b)) 1 0; scratch = zeroed scratch }
  -- never a refusal
  pub never : (e : Refusal) → c ≡ Err e → ⊥
  -- equal exactly where the texts are
  pub equal : c ≡ Ok true → plain term_a ≡ plain term_b
  pub same : plain term_a ≡ plain term_b → c ≡ Ok true

-- for any two messages that `decode` accepts, each with tables of any lengths and any old contents, and any scratch of at least the rows used of both: `compare`, on
-- the messages, the row tables as `decode` left them, and the counts and roots that it answered, compares the full plain texts of the two messages' terms
abbrev pub AcceptedCompare : Type 0
AcceptedCompare =
    (message_a : List ℕ) (t_a u_a : Tables) (a : Accepted) → decoded_as (Ok a) u_a ≡ decode_answer message_a t_a
    → (message_b : List ℕ) (t_b u_b : Tables) (b : Accepted) → decoded_as (Ok b) u_b ≡ decode_answer message_b t_b
    → (scratch : List ℕ) → a.used + b.used ≤ length scratch
    → (c : Result Bool Refusal) (scratch' : List ℕ) → compared_as c scratch' ≡ compare_answer message_a u_a.rows a.used a.root.0 message_b u_b.rows b.used b.root.0 scratch
    → ComparesTexts message_a message_b scratch c scratch'

-- two messages decoded and compared: the refusal of the first, or of the second; a scratch that is too short; the same texts, or others
pub data Comparison : Type 0 where
  first_refused : ℕ → ℕ → Comparison
  second_refused : ℕ → ℕ → Comparison
  scratch_too_short : Comparison
  equal : Comparison
  different : Comparison

-- the answer of a function that decodes two messages and compares them
unfoldable pub comparison_as : Result Bool NotCompared → Comparison
comparison_as (Ok same) = cond same equal different
comparison_as (Err (First e)) = first_refused (number_of e.refusal) e.place.0
comparison_as (Err (Second e)) = second_refused (number_of e.refusal) e.place.0
comparison_as (Err ShortScratch) = scratch_too_short

-- what it has to answer, from what the machine at terms says of each message and the length of the scratch
unfoldable pub comparison_says : Outcome (M.Result term_values) → Outcome (M.Result term_values) → ℕ → Comparison
comparison_says (refused number place) b room = first_refused number place
comparison_says (accepted k x) (refused number place) room = second_refused number place
comparison_says (accepted k x) (accepted l y) room =
    cond (ltb room (x.used + y.used)) scratch_too_short
    (cond (same_bytes (plain x.root) (plain y.root)) equal different)

-- the buffers that it leaves: the first message's rows, the tables of the second, the scratch
pub record ComparisonBuffers : Type 0 where
  pub rows : List ℕ
  pub tables : Tables
  pub scratch : List ℕ

abbrev pub comparison_buffers : List ℕ → Tables → List ℕ → ComparisonBuffers
comparison_buffers rows t scratch = record { rows = rows; tables = t; scratch = scratch }

-- those that `decode` leaves of the first message; where that is accepted, those that it leaves of the second, with the same stack, marks and registers;
-- where both are, the scratch that `compare` leaves
unfoldable pub comparison_leaves : List ℕ → List ℕ → List ℕ → Tables → List ℕ → ComparisonBuffers
comparison_leaves message_a rows message_b t scratch =
    let a = decode_answer message_a (tables rows t.stack t.marks t.registers) in
    let b = decode_answer message_b (tables t.rows a.tables.stack a.tables.marks a.tables.registers) in
    let c = compare_answer message_a a.tables.rows a.used a.root message_b b.tables.rows b.used b.root scratch in
    cond (eqb a.number 0)
    (comparison_buffers a.tables.rows b.tables (cond (eqb b.number 0) c.scratch scratch))
    (comparison_buffers a.tables.rows (tables t.rows a.tables.stack a.tables.marks a.tables.registers) scratch)
