-- 01, 'Bytes and items': a fixed table gives each byte its class.
-- The 27 special bytes are listed; every other byte names a register.
use Rattle.std.specs.Prelude.{ℕ, zero, suc, ◌+◌, Bool, true, false, ◌&&◌, cond, List, [], ◌∷◌, eqb}
use Prim.Native.Char.{code}
use Prim.Native.String as S
use Prim.Native.String.{String}

-- the classes: one for white space, one for digits, one for each other special byte, one for all registers
pub data Class : Type 0 where
  white digit minus atom_quote string_quote tag_quote comment_quote left_brace right_brace tilde hash ampersand dollar greater comma register : Class

-- a byte and its class
pub data Entry : Type 0 where
  ◌is◌ : ℕ → Class → Entry

infix 40 ◌is◌
-- white space, the digits, and the bytes that 01 names as no registers, `$` and `>` among them; the comma has no meaning
unfoldable pub specials : List Entry
specials =
    (code " " is white) ∷ (code "\t" is white) ∷ (code "\n" is white) ∷ (code "\r" is white)
    ∷ (code "0" is digit) ∷ (code "1" is digit) ∷ (code "2" is digit) ∷ (code "3" is digit) ∷ (code "4" is digit)
    ∷ (code "5" is digit) ∷ (code "6" is digit) ∷ (code "7" is digit) ∷ (code "8" is digit) ∷ (code "9" is digit)
    ∷ (code "-" is minus) ∷ (code "%" is comment_quote) ∷ (code "\"" is string_quote) ∷ (code "~" is tilde)
    ∷ (code "'" is atom_quote) ∷ (code "`" is tag_quote) ∷ (code "{" is left_brace) ∷ (code "}" is right_brace)
    ∷ (code "#" is hash) ∷ (code "&" is ampersand) ∷ (code "," is comma) ∷ (code "$" is dollar) ∷ (code ">" is greater) ∷ []

-- the class that a list gives a byte: registers are named by any byte except those listed
unfoldable pub class_in : List Entry → ℕ → Class
class_in [] b = register
class_in ((k is c) ∷ es) b = elim (eqb k b) [ true ↦ c | false ↦ class_in es b ]

-- the class of a byte
unfoldable pub class_of : ℕ → Class
class_of b = class_in specials b

-- a number for each class, by which two are compared
abbrev pub class_code : Class → ℕ
class_code white = 0
class_code digit = 1
class_code minus = 2
class_code atom_quote = 3
class_code string_quote = 4
class_code tag_quote = 5
class_code comment_quote = 6
class_code left_brace = 7
class_code right_brace = 8
class_code tilde = 9
class_code hash = 10
class_code ampersand = 11
class_code dollar = 12
class_code greater = 13
class_code comma = 14
class_code register = 15

-- whether byte b is of class c
unfoldable pub has_class : Class → ℕ → Bool
has_class c b = eqb (class_code (class_of b)) (class_code c)

-- how many of the bytes below n are of class c
unfoldable pub count_below : ℕ → Class → ℕ
count_below zero c = 0
count_below (suc n) c = cond (has_class c n) 1 0 + count_below n c

-- the bytes of a quoted text, a byte for each character below 256
unfoldable pub bytes_of : String → List ℕ
bytes_of S.[] = []
bytes_of (S.◌∷◌ c s) = code c ∷ bytes_of s

-- whether two texts are the same bytes
unfoldable pub same_bytes : List ℕ → List ℕ → Bool
same_bytes [] [] = true
same_bytes [] (y ∷ ys) = false
same_bytes (x ∷ xs) [] = false
same_bytes (x ∷ xs) (y ∷ ys) = eqb x y && same_bytes xs ys
