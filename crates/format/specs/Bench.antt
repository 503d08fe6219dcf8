-- 01, 'Bench messages': the lines marked P, and lines of our own for what those leave out.
-- proofs/Bench.antt shows that the definitions give each line back.
use Rattle.std.specs.Prelude.{ℕ, ◌*◌, ◌&&◌, cond, List, [], ◌∷◌, pos, negsuc, replicate, eqb}
use Prim.Native.String.{String}
use Rattle.format.specs.Byte.{bytes_of}
use Rattle.format.specs.Term as T
use Rattle.format.specs.Term.{Term, ◌then◌}
use Rattle.format.specs.Text.{plain}
use Rattle.format.specs.Bound.{register_words}
use Rattle.format.specs.Machine as M
use Rattle.format.specs.Machine.{Result, refused, accepted, run}
use Rattle.format.specs.Meaning.{term_values}
use Rattle.format.specs.Rows.{Row, row, row_words, rows_of}
use Rattle.format.specs.Answer.{Tables, Decoded, decode_answer, limits_of}

-- what a line says of a message: refused with a number at a place; or accepted, with bytes consumed, root, rows, term and plain text
pub data Claim : Type 0 where
  refusal : ℕ → ℕ → Claim
  accepts : ℕ → ℕ → List Row → Term → List ℕ → Claim
  disagree : Claim

-- room in rows, stack and marks; the message; the claim
pub data Line : Type 0 where
  line : ℕ → ℕ → ℕ → String → Claim → Line

-- tables with that much room, and something in every word
unfoldable pub lend : ℕ → ℕ → ℕ → Tables
lend rows stack marks = record {
  rows = replicate (rows * row_words) 9;
  stack = replicate stack 9;
  marks = replicate marks 9;
  registers = replicate register_words 9;
}

-- what the decoder's answer and the machine at terms say together
unfoldable pub claim_of : Decoded → M.Outcome (Result term_values) → Claim
claim_of d (refused n p) = cond (eqb d.number n && eqb d.place p && eqb d.root 0 && eqb d.used 0) (refusal n p) disagree
claim_of d (accepted k r) =
    cond (eqb d.number 0 && eqb d.place k && eqb d.used r.used)
    (accepts k d.root (rows_of d.used d.tables.rows) r.root (plain r.root))
    disagree

-- what they say of a message, with the tables t lent
unfoldable pub claimed : Tables → List ℕ → Claim
claimed t message = claim_of (decode_answer message t) (run term_values (limits_of t) message)

-- a line with the claim that the definitions make
unfoldable pub told : Line → Line
told (line rows stack marks message claim) = line rows stack marks message (claimed (lend rows stack marks) (bytes_of message))

-- the same of every line
unfoldable pub told_all : List Line → List Line
told_all [] = []
told_all (l ∷ ls) = told l ∷ told_all ls

-- a line with room for everything in the tables below
unfoldable pub on : String → Claim → Line
on = line 64 16 8

abbrev pub natural : ℕ → Term
natural n = T.int (pos n)

-- the lines marked P, in 01's order
unfoldable pub marked_p : List Line
unfolding on bytes_of
marked_p =
    on "" (refusal 3 0)
    ∷ on "$" (refusal 11 0)
    ∷ on "'a'$" (accepts 4 0 (row 2 1 1 0 ∷ []) (T.atom (bytes_of "a")) (bytes_of "'a'$"))
    ∷ on "-0 $" (accepts 4 0 (row 1 0 0 0 ∷ []) (natural 0) (bytes_of "0 $"))
    ∷ on "#2 &1 &$"
    (accepts 8 4 (row 5 0 0 0 ∷ row 1 0 2 0 ∷ row 6 1 0 0 ∷ row 1 0 1 0 ∷ row 6 3 2 0 ∷ [])
    (T.list (natural 1 then natural 2 then T.none)) (bytes_of "#2 &1 &$"))
    ∷ on "{}$" (accepts 3 0 (row 7 0 0 0 ∷ []) (T.tuple T.none) (bytes_of "{}$"))
    ∷ on "1{>a}$" (refusal 6 2)
    ∷ on "3~a~b~$" (accepts 7 1 (row 1 0 3 0 ∷ row 4 2 3 0 ∷ []) (T.binary (bytes_of "a~b")) (bytes_of "3~a~b~$"))
    ∷ on "9223372036854775808 $" (refusal 5 0)
    ∷ on "a$" (refusal 9 0)
    ∷ on "1 2$" (refusal 11 3)
    ∷ on "1,2$" (refusal 4 1)
    ∷ on "1 >a{aa}>a{aa}>aa$"
    (accepts 18 6 (row 1 0 1 0 ∷ row 7 0 0 0 ∷ row 8 0 1 0 ∷ row 8 0 2 0 ∷ row 7 0 0 0 ∷ row 8 3 4 0 ∷ row 8 3 5 0 ∷ [])
    (let pair = T.tuple (natural 1 then natural 1 then T.none) in T.tuple (pair then pair then T.none)) (bytes_of "{{1 1 }{1 1 }}$"))
    ∷ []

-- refusals: each number, where it stands, and in each item's order the earlier of two that both hold
unfoldable pub refusals : List Line
unfolding on
refusals =
    -- an integer: 3 before 5, 5 before 12, 12 before 13; a minus wants a digit
    on "12" (refusal 3 2)
    ∷ on "-" (refusal 3 1)
    ∷ on "-a$" (refusal 4 1)
    ∷ on "--1 $" (refusal 4 1)
    ∷ on "9223372036854775808" (refusal 3 19)
    ∷ on "-9223372036854775809 $" (refusal 5 0)
    ∷ on "1 9223372036854775808 $" (refusal 5 2)
    ∷ line 0 0 0 "9223372036854775808 $" (refusal 5 0)
    ∷ line 0 0 0 "1 $" (refusal 12 0)
    ∷ line 1 0 0 "1 $" (refusal 13 0)
    -- quoted text: the first byte that cannot stand there is 4 at once, though the slice ends with no quote; 3 and 4 before 12, 12 before 13
    ∷ on "'a" (refusal 3 2)
    ∷ on "1 'a" (refusal 3 4)
    ∷ on "\"\\" (refusal 3 2)
    ∷ on "'\\a" (refusal 4 2)
    ∷ on "\"\\'\"$" (refusal 4 2)
    ∷ line 0 0 0 "'a" (refusal 3 2)
    ∷ line 0 0 0 "'\\a'$" (refusal 4 2)
    ∷ line 0 0 0 "'a'$" (refusal 12 0)
    ∷ line 1 0 0 "\"a\"$" (refusal 13 0)
    -- a tag: 3, 4, 6, 12
    ∷ on "`t" (refusal 3 2)
    ∷ on "`\\t" (refusal 4 2)
    ∷ on "`\\t`$" (refusal 4 2)
    ∷ on "1 {`t`" (refusal 6 3)
    ∷ line 0 0 0 "`t`$" (refusal 6 0)
    ∷ line 1 1 0 "1 `t`$" (refusal 12 2)
    -- a comment: 3, 4
    ∷ on "%a" (refusal 3 2)
    ∷ on "%\\a" (refusal 4 2)
    -- `~`: 6, 7, 8, 3, 4, 12
    ∷ on "~" (refusal 6 0)
    ∷ on "'a'{~" (refusal 6 4)
    ∷ on "'a'~" (refusal 7 3)
    ∷ on "-1`t`~" (refusal 7 5)
    ∷ on "1`t`~a~$" (refusal 7 4)
    ∷ on "-1~" (refusal 8 2)
    ∷ on "1~a" (refusal 3 3)
    ∷ on "2~a~" (refusal 3 4)
    ∷ on "1~aa$" (refusal 4 3)
    ∷ line 1 1 0 "1~a" (refusal 3 3)
    ∷ line 1 1 0 "1~aa$" (refusal 4 3)
    ∷ line 1 1 0 "1~a~$" (refusal 12 1)
    -- `&`: 6, 7, 12
    ∷ on "1 &" (refusal 6 2)
    ∷ on "1 {2 &" (refusal 6 5)
    ∷ on "1 2 &$" (refusal 7 4)
    ∷ on "#`t`1 &$" (refusal 7 6)
    ∷ line 2 2 0 "1 2 &$" (refusal 7 4)
    ∷ line 2 2 0 "#1 &$" (refusal 12 3)
    -- `}`: 10, 12, 13; no line gives 17
    ∷ on "}" (refusal 10 0)
    ∷ on "1 }" (refusal 10 2)
    ∷ line 0 0 0 "}" (refusal 10 0)
    ∷ line 1 1 1 "1 {}$" (refusal 12 3)
    ∷ line 2 1 1 "1 {}$" (refusal 13 3)
    ∷ line 2 1 1 "{1 }$" (refusal 12 3)
    -- `{`: 14
    ∷ line 1 1 0 "{}$" (refusal 14 0)
    ∷ line 1 1 1 "{{}}$" (refusal 14 1)
    -- `#`: 12, 13
    ∷ line 0 0 0 "#$" (refusal 12 0)
    ∷ line 1 0 0 "#$" (refusal 13 0)
    -- a store: 3, 4, 6
    ∷ on ">" (refusal 3 1)
    ∷ on ">$" (refusal 4 1)
    ∷ on "1 >1" (refusal 4 3)
    ∷ on "1 > a" (refusal 4 3)
    ∷ on "1 >>" (refusal 4 3)
    ∷ on ">a$" (refusal 6 0)
    -- a push: 9, 13
    ∷ line 0 0 0 "a$" (refusal 9 0)
    ∷ on "1 >ab$" (refusal 9 4)
    ∷ line 1 1 0 "1 >aaa$" (refusal 13 5)
    -- `$`: 10, 11; 3 where no `$` comes
    ∷ on "{$" (refusal 10 1)
    ∷ on "{1 $" (refusal 10 3)
    ∷ on "1 >a$" (refusal 11 4)
    ∷ on " \t\n\r%a%" (refusal 3 7)
    -- a byte with no meaning
    ∷ on "," (refusal 4 0)
    ∷ []

-- messages that are accepted, the first two with just enough room
unfoldable pub acceptances : List Line
unfolding on bytes_of
acceptances =
    line 1 1 0 "1 $,," (accepts 3 0 (row 1 0 1 0 ∷ []) (natural 1) (bytes_of "1 $"))
    ∷ line 1 1 1 "{}$" (accepts 3 0 (row 7 0 0 0 ∷ []) (T.tuple T.none) (bytes_of "{}$"))
    ∷ on " \t\n\r007\r$" (accepts 9 0 (row 1 0 7 0 ∷ []) (natural 7) (bytes_of "7 $"))
    ∷ on "9223372036854775807 $" (accepts 21 0 (row 1 2147483647 4294967295 0 ∷ []) (natural 9223372036854775807) (bytes_of "9223372036854775807 $"))
    ∷ on "-9223372036854775808 $" (accepts 22 0 (row 1 2147483648 0 0 ∷ []) (T.int (negsuc 9223372036854775807)) (bytes_of "-9223372036854775808 $"))
    ∷ on "#$" (accepts 2 0 (row 5 0 0 0 ∷ []) (T.list T.none) (bytes_of "#$"))
    ∷ on "''$" (accepts 3 0 (row 2 1 0 0 ∷ []) (T.atom []) (bytes_of "''$"))
    ∷ on "'\\'\n\0\"\\\\'$" (accepts 10 0 (row 2 1 7 0 ∷ []) (T.atom (bytes_of "\\'\n\0\"\\\\")) (bytes_of "'\\'\n\0\"\\\\'$"))
    ∷ on "\"it's `~\"$" (accepts 10 0 (row 3 1 7 0 ∷ []) (T.string (bytes_of "it's `~")) (bytes_of "\"it's `~\"$"))
    ∷ on "%a\\%b,%0~~$" (accepts 11 1 (row 1 0 0 0 ∷ row 4 9 0 0 ∷ []) (T.binary []) (bytes_of "0~~$"))
    -- a count, an item and a field from a register; a push copies, and the register keeps its content
    ∷ on "3 >aa~abc~$" (accepts 11 1 (row 1 0 3 0 ∷ row 4 6 3 0 ∷ []) (T.binary (bytes_of "abc")) (bytes_of "3~abc~$"))
    ∷ on "1 >a{aa}$"
    (accepts 9 3 (row 1 0 1 0 ∷ row 7 0 0 0 ∷ row 8 0 1 0 ∷ row 8 0 2 0 ∷ []) (T.tuple (natural 1 then natural 1 then T.none)) (bytes_of "{1 1 }$"))
    ∷ on "1 >a2 >b#>ccb&a&$"
    (accepts 17 4 (row 1 0 1 0 ∷ row 1 0 2 0 ∷ row 5 0 0 0 ∷ row 6 1 2 0 ∷ row 6 0 3 0 ∷ []) (T.list (natural 1 then natural 2 then T.none)) (bytes_of "#2 &1 &$"))
    -- a tag with no name; a tag over a tag
    ∷ on "1 ``$" (accepts 5 1 (row 1 0 1 0 ∷ row 9 3 0 0 ∷ []) (T.tag [] (natural 1)) (bytes_of "1 ``$"))
    ∷ on "1 `a``b`$" (accepts 9 2 (row 1 0 1 0 ∷ row 9 3 1 0 ∷ row 9 6 1 1 ∷ []) (T.tag (bytes_of "b") (T.tag (bytes_of "a") (natural 1))) (bytes_of "1 `a``b`$"))
    -- a tuple in a tuple
    ∷ on "{1 {2 }}$"
    (accepts 9 6 (row 1 0 1 0 ∷ row 1 0 2 0 ∷ row 7 0 0 0 ∷ row 8 1 2 0 ∷ row 7 0 0 0 ∷ row 8 3 4 0 ∷ row 8 0 5 0 ∷ [])
    (T.tuple (natural 1 then T.tuple (natural 2 then T.none) then T.none)) (bytes_of "{1 {2 }}$"))
    -- registers from each run of bytes that name one
    ∷ on "1 >\0\0>\u{b}\u{b}>\u{1f}\u{1f}>!!>((>++>..>//>::><<>==>??>@@>ZZ>[[>\\\\>^^>__>aa>zz>||>\u{7f}\u{7f}>\u{80}\u{80}>ÿÿ$"
    (accepts 75 0 (row 1 0 1 0 ∷ []) (natural 1) (bytes_of "1 $"))
    ∷ []
