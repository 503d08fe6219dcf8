-- Quoted text after its opening quote.
use Rattle.std.specs.Prelude.{ℕ, suc, ◌+◌, Bool, true, false, List, [], ◌∷◌, eqb, Result, Ok, Err}
use Prim.Native.Char.{code}
use Rattle.format.specs.Lex as L
use Rattle.format.specs.Lex.{Scan, scan}
use Rattle.lexer.specs.declared.quoted.Quoted.{Quoted}
use Rattle.lexer.specs.declared.quoted.Unclosed.{Unclosed}
use Rattle.lexer.specs.declared.quoted.Unclosed.TheVariants.{Stray, Ended}

-- whether bytes, all of them read, end in a backslash that escapes the next
unfoldable pub escaped_after : Bool → List ℕ → Bool
escaped_after escaped [] = escaped
escaped_after true (c ∷ r) = escaped_after false r
escaped_after false (c ∷ r) = escaped_after (eqb c (code "\\")) r

-- what a look for the closing quote finds, so many bytes after p
unfoldable pub scanned : ℕ → Bool → Scan → Result Quoted Unclosed
scanned p escaped L.ended = Err (Ended escaped)
scanned p escaped (L.stray_at k) = Err (Stray (record { 0 = p + k }))
scanned p escaped (L.closed_at k) = Ok (record { count = k; end = record { 0 = suc (p + k) } })

-- the look from p on
unfoldable pub quoted_from : ℕ → Bool → ℕ → List ℕ → Result Quoted Unclosed
quoted_from quote escaped p r = scanned p (escaped_after escaped r) (scan quote escaped 0 r)
