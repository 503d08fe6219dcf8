-- 01, 'Bytes and items': inside quoted text the mark that closes it and a backslash have a meaning; every other byte is plain.
use Rattle.std.specs.Prelude.{ℕ, suc, ◌+◌, Bool, true, false, ◌||◌, cond, List, [], ◌∷◌, drop, eqb}
use Prim.Native.Char.{code}

-- whether a byte is the quote or a backslash
unfoldable pub is_mark : ℕ → ℕ → Bool
is_mark quote b = eqb b quote || eqb b (code "\\")

-- how many plain bytes some bytes begin with
unfoldable pub plain_count : ℕ → List ℕ → ℕ
plain_count quote [] = 0
plain_count quote (b ∷ r) = elim (is_mark quote b) [ true ↦ 0 | false ↦ suc (plain_count quote r) ]

-- the place of the first mark from `from` on, or the end; `from` itself past the end
unfoldable pub plain_end : ℕ → List ℕ → ℕ → ℕ
plain_end quote bytes from = from + plain_count quote (drop from bytes)

-- 1 for a mark, 0 for a plain byte
unfoldable pub mark_count : ℕ → ℕ → ℕ
mark_count quote b = cond (is_mark quote b) 1 0
