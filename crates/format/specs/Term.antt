-- 01, 'The machine', last paragraph: the terms that messages stand for. A term knows no row and no offset.
use Rattle.std.specs.Prelude.{ℕ, List, [], ◌∷◌, ℤ}

-- an integer; an atom or string with its bytes as spelled; a binary with its bytes; a list or tuple of terms; or a tag, as spelled, with a term
mutual
  pub data Term : Type 0 where
    int : ℤ → Term
    atom string binary : List ℕ → Term
    list tuple : Terms → Term
    tag : List ℕ → Term → Term

  -- the items of a list or the fields of a tuple, first to last
  pub data Terms : Type 0 where
    none : Terms
    ◌then◌ : Term → Terms → Terms

infixr 40 ◌then◌
-- terms given as a list of values
unfoldable pub terms_from : List Term → Terms
terms_from [] = none
terms_from (t ∷ ts) = t then terms_from ts
