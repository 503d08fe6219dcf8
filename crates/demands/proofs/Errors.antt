-- An answer whose error was replaced by another, made of it.
use mathlib.Core.Path.{◌≡◌, refl, ap}
use Rattle.std.specs.Prelude.{Result, Ok, Err, MatchResult, IsErrAnd}
use Rattle.std.specs.Result.{result_map_both}

module _ {A E D : Type 0} (f : E → D) where
  abbrev pub with_error : Result A E → Result A D
  with_error r = result_map_both (λ x. x) f r

  -- as `map_err` says it
  pub replaced : {Made : E → D → Type 0} (before : Result A E) (after : Result A D) → MatchResult before (λ x. after ≡ Ok x) (λ e. IsErrAnd after (Made e))
      → ((e : E) (d : D) → Made e d → d ≡ f e) → after ≡ with_error before
  replaced (Ok x) after h made = h
  replaced (Err e) (Ok x) h made = absurd h
  replaced (Err e) (Err d) h made = ap (λ (y : D). Err y) (made e d h)

  -- what it was before
  pub value : (before : Result A E) (x : A) → with_error before ≡ Ok x → before ≡ Ok x
  value (Ok y) x e = cc
  value (Err y) x e = cc

  pub error : (before : Result A E) (d : D) → with_error before ≡ Err d → (e : E) × ((before ≡ Err e) × (d ≡ f e))
  error (Ok y) d e = absurd (cc)
  error (Err y) d e = (y, (refl, cc))
