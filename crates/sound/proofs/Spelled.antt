-- Text judged from left to right: what the bytes at the place i tell of the text from there on.
use Prim.Native.Nat.{ℕ, ◌+◌, ◌≤◌, ◌<◌}
use mathlib.Core.Path.{◌≡◌, refl, ◌∙◌}
use mathlib.Core.Bool.{Bool, true, false, ◌&&◌, and-true}
use mathlib.Core.List.{List, [], ◌∷◌}
use native.Mathlib.Numerals.{add-one}
use native.Mathlib.Omega.{arith}
use lib.ListN.{length, drop, get_or, drop_of_length-le}
use lib.Seq.{drop-cons}
use borrow.Author.Tests.{eq-eqb, ne_eqb}
use Rattle.scan.specs.Plain.{is_mark, plain_end}
use Rattle.format.specs.Sound.{spelled}
use Rattle.scan.proofs.Runs.{no_quote, no_backslash, is-backslash, along, within, stops}

-- the byte after a backslash is judged by itself
after-backslash : (quote c : ℕ) (r : List ℕ) → spelled quote true (c ∷ r) ≡ (spelled quote true (c ∷ []) && spelled quote false r)
unfolding spelled
after-backslash quote c r = rw and-true

module _ (text : List ℕ) (quote : ℕ) where
  -- whether the bytes from i on are spelled as between two quotes
  abbrev pub from : ℕ → Bool
  from i = spelled quote false (drop i text)

  pub ends : (i : ℕ) → length text ≤ i → from i ≡ true
  unfolding spelled
  ends i h = rw (drop_of_length-le text h)

  byte_at : (i : ℕ) → i < length text → drop i text ≡ get_or text i 0 ∷ drop (i + 1) text
  byte_at i h = rw (drop-cons text i 0 h, add-one)

  module _ (i : ℕ) (h : i < length text) where
    closes : get_or text i 0 ≡ quote → from i ≡ false
    unfolding spelled
    closes e = rw (byte_at i h, spelled, eq-eqb _ _ e)

    module _ (stays : get_or text i 0 ≡ quote → ⊥) where
      passes : (get_or text i 0 ≡ 92 → ⊥) → from i ≡ from (i + 1)
      unfolding spelled
      passes n = rw (byte_at i h, spelled, ne_eqb _ _ stays, ne_eqb _ _ n)

      module _ (backslash : get_or text i 0 ≡ 92) where
        escapes : from i ≡ spelled quote true (drop (i + 1) text)
        unfolding spelled
        escapes = rw (byte_at i h, spelled, ne_eqb _ _ stays, eq-eqb _ _ backslash)

        -- nothing to escape
        cut : length text ≤ i + 1 → from i ≡ false
        unfolding spelled
        cut l = rw (escapes, drop_of_length-le text l)

        module _ (l : i + 1 < length text) where
          followed : from i ≡ (spelled quote true (get_or text (i + 1) 0 ∷ []) && from ((i + 1) + 1))
          followed = rw (escapes, byte_at (i + 1) l, after-backslash)

          strays : spelled quote true (get_or text (i + 1) 0 ∷ []) ≡ false → from i ≡ false
          strays e = rw (followed, e)

          passes-both : spelled quote true (get_or text (i + 1) 0 ∷ []) ≡ true → from i ≡ from ((i + 1) + 1)
          passes-both e = rw (followed, e)

  -- the end p of the plain bytes at i
  module _ {i : ℕ} (h : i ≤ length text) {p : ℕ} (e : p ≡ plain_end quote text i) where
    run : from i ≡ from p
    run =
        let step : (k : ℕ) → k < plain_end quote text i → is_mark quote (get_or text k 0) ≡ false → from k ≡ from (k + 1) =
        λ k b n. passes k (omega (arith, within quote text i h)) (no_quote quote _ n) (no_backslash quote _ n) in
        rw e (along quote text i (λ k. from i ≡ from k) refl (λ k b n before. before ∙ step k b n))

    pub run_ends : length text ≤ p → from i ≡ true
    run_ends b = run ∙ ends p b

    module _ (b : p < length text) where
      pub run-closes : get_or text p 0 ≡ quote → from i ≡ false
      run-closes q = run ∙ closes p b q

      module _ (stays : get_or text p 0 ≡ quote → ⊥) where
        backslash : get_or text p 0 ≡ 92
        backslash = is-backslash quote _ (rw e (stops quote text i (rw e at b))) stays

        pub run-cut : length text ≤ p + 1 → from i ≡ false
        run-cut l = run ∙ cut p b stays backslash l

        module _ (l : p + 1 < length text) where
          pub run-strays : spelled quote true (get_or text (p + 1) 0 ∷ []) ≡ false → from i ≡ false
          run-strays s = run ∙ strays p b stays backslash l s

          pub run-follows : spelled quote true (get_or text (p + 1) 0 ∷ []) ≡ true → from i ≡ from ((p + 1) + 1)
          run-follows s = run ∙ passes-both p b stays backslash l s
