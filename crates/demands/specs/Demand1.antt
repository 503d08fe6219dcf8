-- Demand 1: a refusal before reading starts leaves the lent tables untouched, any later one leaves them zero; a refused writing changes no output byte.
use Rattle.std.specs.Prelude.{ℕ, ◌≤◌, ◌≡◌, Bool, true, false, List, [], length, drop, Result, Ok, Err}
use Rattle.format.specs.Number.{number_of}
use Rattle.format.specs.Answer.{Tables, zeroed, cleared}
use Rattle.format.specs.declared.refusal.Refusal.{Refusal}
use Rattle.format.specs.declared.refusal.Refused.{Refused}
use Rattle.decoder.specs.declared.Accepted.{Accepted}

-- the tables t are lent to `decode`, which answers r and leaves the tables u
pub record DecodeTouches (t : Tables) (r : Result Accepted Refused) (u : Tables) : Type 0 where
  -- refusals 1 and 2
  pub untouched : (e : Refused) → r ≡ Err e → number_of e.refusal ≤ 2 → u ≡ t
  -- every later one: no row, and zeros
  pub zero : (e : Refused) → r ≡ Err e → 3 ≤ number_of e.refusal → u ≡ cleared t []

-- a scratch and an output are lent to `write`, which answers r and leaves them as scratch' and output'
pub record WriteTouches (scratch output : List ℕ) (r : Result ℕ Refusal) (scratch' output' : List ℕ) : Type 0 where
  -- after a refusal the output is as it was
  pub unchanged : (e : Refusal) → r ≡ Err e → output' ≡ output
  -- after refusals 1 and 2 the scratch is too, after every other answer it is zero
  pub untouched : (e : Refusal) → r ≡ Err e → number_of e ≤ 2 → scratch' ≡ scratch
  pub zero : (e : Refusal) → r ≡ Err e → 3 ≤ number_of e → scratch' ≡ zeroed scratch
  pub zero_after : (n : ℕ) → r ≡ Ok n → scratch' ≡ zeroed scratch
  -- no byte past those reported is changed, and those reported lie in the output
  pub past : (n : ℕ) → r ≡ Ok n → (n ≤ length output) × (drop n output' ≡ drop n output)

-- a scratch is lent to `compare`, which answers r and leaves it as scratch'
pub record CompareTouches (scratch : List ℕ) (r : Result Bool Refusal) (scratch' : List ℕ) : Type 0 where
  -- after refusals 1 and 2 it is as it was, after every other answer it is zero
  pub untouched : (refusal : Refusal) → r ≡ Err refusal → number_of refusal ≤ 2 → scratch' ≡ scratch
  pub zero : (refusal : Refusal) → r ≡ Err refusal → 3 ≤ number_of refusal → scratch' ≡ zeroed scratch
  pub zero_equal : r ≡ Ok true → scratch' ≡ zeroed scratch
  pub zero_different : r ≡ Ok false → scratch' ≡ zeroed scratch
