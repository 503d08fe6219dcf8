-- 01, 'Plain text': the full plain text of a term, whatever its length.
-- Each function writes its text in front of a rest.
use Rattle.std.specs.Prelude.{ℕ, zero, suc, ◌+◌, ◌/◌, ◌%◌, true, false, List, [], ◌∷◌, ◌++◌, ℤ, pos, negsuc, length, ltb}
use Prim.Native.Char.{code}
use Rattle.format.specs.Term as T
use Rattle.format.specs.Term.{Term, Terms, ◌then◌}

-- the shortest decimal of n, most significant digit first; the first argument only bounds the divisions by ten, and n is enough
unfoldable pub digits_on : ℕ → ℕ → List ℕ → List ℕ
digits_on zero n rest = (code "0" + n) ∷ rest
digits_on (suc f) n rest = elim (ltb n 10) [
  | true ↦ (code "0" + n) ∷ rest
  | false ↦ digits_on f (n / 10) ((code "0" + n % 10) ∷ rest)
]

-- a count, without a blank
unfoldable pub natural_on : ℕ → List ℕ → List ℕ
natural_on n rest = digits_on n n rest

-- an integer, without its blank
unfoldable pub decimal_on : ℤ → List ℕ → List ℕ
decimal_on (pos n) rest = natural_on n rest
decimal_on (negsuc n) rest = code "-" ∷ natural_on (suc n) rest

-- bytes between two quotes
abbrev pub between : ℕ → List ℕ → List ℕ → List ℕ
between quote bytes rest = quote ∷ bytes ++ quote ∷ rest

-- integer: decimal and one blank; atom, string: quotes and bytes as spelled; binary: count, `~`, bytes, `~`; tag: inner text, then the tag
unfoldable mutual
  pub text_on : Term → List ℕ → List ℕ
  text_on (T.int z) rest = decimal_on z (code " " ∷ rest)
  text_on (T.atom b) rest = between (code "'") b rest
  text_on (T.string b) rest = between (code "\"") b rest
  text_on (T.binary b) rest = natural_on (length b) (between (code "~") b rest)
  text_on (T.list ts) rest = code "#" ∷ items_on ts rest
  text_on (T.tuple ts) rest = code "{" ∷ fields_on ts (code "}" ∷ rest)
  text_on (T.tag b t) rest = text_on t (between (code "`") b rest)

  -- a list's items, from last to first the item and `&`
  pub items_on : Terms → List ℕ → List ℕ
  items_on T.none rest = rest
  items_on (t then ts) rest = items_on ts (text_on t (code "&" ∷ rest))

  -- a tuple's fields
  pub fields_on : Terms → List ℕ → List ℕ
  fields_on T.none rest = rest
  fields_on (t then ts) rest = text_on t (fields_on ts rest)

-- the plain text of a term: after the whole, `$`
unfoldable pub plain : Term → List ℕ
plain t = text_on t (code "$" ∷ [])
