-- Quoted text looked through from `start` on: what one byte does, and a run of plain bytes, at the place i of a message.
use Prim.Native.Nat.{ℕ, suc, ◌+◌, ◌-◌, ◌≤◌, ◌<◌}
use Prim.Native.Char.{code}
use mathlib.Core.Path.{◌≡◌, refl, ap, sym, ◌∙◌}
use mathlib.Core.Bool.{Bool, true, false, ◌||◌}
use mathlib.Core.List.{List}
use native.Mathlib.Omega.{arith}
use lib.ListN.{length, take, drop, get_or, drop_of_length-le}
use lib.Seq.{get_or-take, length-take-le, take-length}
use lib.Dec.{eqb}
use borrow.Author.Tests.{eq-eqb, ne_eqb}
use Rattle.std.specs.Prelude.{Result, Ok, Err}
use Rattle.format.specs.Lex.{scan}
use Rattle.scan.specs.Plain.{is_mark, plain_end}
use Rattle.scan.proofs.Runs.{no_quote, no_backslash, is-backslash, along, within, stops}
use Rattle.lexer.specs.declared.quoted.Quoted.{Quoted}
use Rattle.lexer.specs.declared.quoted.Unclosed.{Unclosed}
use Rattle.lexer.specs.declared.quoted.Unclosed.TheVariants.{Stray, Ended}
use Rattle.lexer.specs.Quoted.{escaped_after, scanned, quoted_from}
use Rattle.lexer.proofs.Bytes.{byte_at, next-count}

or_true : (b : Bool) → (b || true) ≡ true
or_true true = refl
or_true false = refl

-- the plain bytes of a message are those of its bytes up to its end
pub whole : (quote : ℕ) (message : List ℕ) (i : ℕ) {p : ℕ} → p ≡ plain_end quote message i → p ≡ plain_end quote (take (length message) message) i
whole quote message i e = rw (take-length message, e)

module _ (quote start : ℕ) (message : List ℕ) where
  -- what is found from i on; `held` says that the byte before is a backslash that escapes the next
  abbrev found : Bool → ℕ → Result Quoted Unclosed
  found held i = scanned start (escaped_after held (drop i message)) (scan quote held (i - start) (drop i message))

  -- the look has come to i, and finds from there what it finds from `start`
  pub record Looking (escaped : Bool) (i : ℕ) (held : Bool) : Type 0 where
    pub past : start ≤ i
    pub left : found held i ≡ quoted_from quote escaped start (drop start message)

  pub begins : (escaped : Bool) → Looking escaped start escaped
  unfolding quoted_from
  begins escaped = let z : start - start ≡ 0 = omega arith in record { past = omega arith; left = rw z }

  module _ {escaped : Bool} {i : ℕ} {held : Bool} (l : Looking escaped i held) where
    pub ends : length message ≤ i → Err (Ended held) ≡ quoted_from quote escaped start (drop start message)
    unfolding scan escaped_after scanned
    ends h = rw (drop_of_length-le message h) at l.left

    module _ (h : i < length message) where
      next : (after : Bool) → found held i ≡ found after (i + 1) → Looking escaped (i + 1) after
      next after e = record { past = omega (arith, l.past); left = sym e ∙ l.left }

      pub strays : held ≡ true → (get_or message i 0 ≡ 92 → ⊥) → (get_or message i 0 ≡ quote → ⊥)
          → Err (Stray (record { 0 = i })) ≡ quoted_from quote escaped start (drop start message)
      unfolding scan scanned
      strays e n m =
          let k : start + (i - start) ≡ i = omega (arith, l.past) in
          rw (e, byte_at message i h, ne_eqb _ _ n, ne_eqb _ _ m, scan, k) at l.left

      -- after a backslash, a backslash or the quote
      escapes : held ≡ true → (eqb (get_or message i 0) (code "\\") || eqb (get_or message i 0) quote) ≡ true → Looking escaped (i + 1) false
      unfolding scan escaped_after
      escapes e t = next false (rw (e, byte_at message i h, t, scan, escaped_after, next-count start i l.past))

      pub backslash : held ≡ true → get_or message i 0 ≡ 92 → Looking escaped (i + 1) false
      backslash e b = escapes e (rw (eq-eqb _ _ b))

      pub escaped_quote : held ≡ true → get_or message i 0 ≡ quote → Looking escaped (i + 1) false
      escaped_quote e b = escapes e (rw (eq-eqb _ _ b, or_true))

      closes : held ≡ false → get_or message i 0 ≡ quote → Ok (record { count = i - start; end = record { 0 = i + 1 } }) ≡ quoted_from quote escaped start (drop start message)
      unfolding scan scanned
      closes e b =
          let k : suc (start + (i - start)) ≡ i + 1 = omega (arith, l.past) in
          rw (e, byte_at message i h, eq-eqb _ _ b, scan, k) at l.left

      passes : held ≡ false → (get_or message i 0 ≡ quote → ⊥) → Looking escaped (i + 1) (eqb (get_or message i 0) 92)
      unfolding scan escaped_after
      passes e n = next _ (rw (e, byte_at message i h, ne_eqb _ _ n, scan, escaped_after, next-count start i l.past))

      passes-plain : held ≡ false → is_mark quote (get_or message i 0) ≡ false → Looking escaped (i + 1) false
      passes-plain e m = rw (ne_eqb _ _ (no_backslash quote _ m)) at (passes e (no_quote quote _ m))

      passes-backslash : held ≡ false → is_mark quote (get_or message i 0) ≡ true → (get_or message i 0 ≡ quote → ⊥) → Looking escaped (i + 1) true
      passes-backslash e m n = rw (eq-eqb _ _ (is-backslash quote _ m n)) at (passes e n)

  -- the end p of the plain bytes at i and before `end`
  module _ {escaped : Bool} {i : ℕ} {held : Bool} (l : Looking escaped i held) (shut : held ≡ false)
      {end : ℕ} (inside : end ≤ length message) (h : i ≤ end) {p : ℕ} (e : p ≡ plain_end quote (take end message) i) where
    size : length (take end message) ≡ end
    size = length-take-le end message inside

    mark_at : (k : ℕ) → k < end → is_mark quote (get_or (take end message) k 0) ≡ is_mark quote (get_or message k 0)
    mark_at k b = ap (is_mark quote) (get_or-take end message k 0 b)

    before_end : p ≤ end
    before_end = omega (arith, e, size, within quote (take end message) i (omega (arith, size)))

    at-end : Looking escaped p false
    at-end =
        let step : (k : ℕ) → k < p → is_mark quote (get_or (take end message) k 0) ≡ false → Looking escaped k false → Looking escaped (k + 1) false =
        λ k b n passed. passes-plain passed (omega (arith, before_end)) refl (sym (mark_at k (omega (arith, before_end))) ∙ n) in
        rw e (along quote (take end message) i (λ k. Looking escaped k false) (rw shut at l) (λ k b. step k (omega (arith, e))))

    pub run_ends : length message ≤ p → Err (Ended false) ≡ quoted_from quote escaped start (drop start message)
    run_ends = ends at-end

    module _ (b : p < end) where
      pub run-closes : get_or message p 0 ≡ quote → Ok (record { count = p - start; end = record { 0 = p + 1 } }) ≡ quoted_from quote escaped start (drop start message)
      run-closes = closes at-end (omega arith) refl

      pub run-opens : (get_or message p 0 ≡ quote → ⊥) → Looking escaped (p + 1) true
      run-opens =
          let mark = rw (sym e) at (stops quote (take end message) i (omega (arith, e, size))) in
          passes-backslash at-end (omega arith) refl (sym (mark_at p b) ∙ mark)
