-- Cases of our own for what the answers add to the machine: buffers at the end, soundness, writer, comparison,
-- and the word reader with 01's figures. proofs/Bench.antt shows that the definitions give each case back.
use Rattle.std.specs.Prelude.{ℕ, Bool, true, false, List, [], ◌∷◌, ◌++◌, ℤ, pos, negsuc, replicate, take}
use Prim.Native.String.{String}
use Rattle.format.specs.Byte.{bytes_of}
use Rattle.format.specs.Rows.{Row, row, words_of}
use Rattle.format.specs.Sound.{sound_table}
use Rattle.format.specs.Word.{Word}
use Rattle.format.specs.Answer.{Tables, Decoded, decode_answer, Written, write_answer, Compared, compare_answer, word_answer}
use Rattle.format.specs.Bench.{lend}

pub data Case : Type 0 where
  -- a message decoded with two rows and a word, one stack word, one mark and so many register words, each holding 9:
  -- number, place, and at the end the rows' words, the stack, the mark and the first register word
  decodes : String → ℕ → ℕ → ℕ → List ℕ → Case
  -- a message, rows, rows claimed and root: sound or not
  table : String → List Row → ℕ → ℕ → Bool → Case
  -- a message and a root, written from the table that decoding leaves: scratch words, each holding 9, and the output before;
  -- number, bytes, and the scratch and the output at the end
  writes : String → ℕ → ℕ → String → ℕ → ℕ → List ℕ → List ℕ → Case
  -- two messages, each with a root, compared on the tables that decoding leaves: scratch words, each holding 9;
  -- number, equal, and the scratch at the end
  compares : String → ℕ → String → ℕ → ℕ → ℕ → ℕ → List ℕ → Case
  -- a message's row and k: number and word
  word : String → ℕ → ℕ → ℕ → ℤ → Case

unfoldable pub small : ℕ → Tables
small registers = record { rows = replicate 9 9; stack = replicate 1 9; marks = replicate 1 9; registers = replicate registers 9 }

unfoldable pub decoded_case : String → ℕ → Decoded → Case
decoded_case message registers d =
    decodes message registers d.number d.place (d.tables.rows ++ d.tables.stack ++ d.tables.marks ++ take 1 d.tables.registers)

unfoldable pub decoded : List ℕ → Decoded
decoded message = decode_answer message (lend 16 8 4)

unfoldable pub written_case : String → ℕ → ℕ → String → Written → Case
written_case message root scratch output w = writes message root scratch output w.number w.bytes w.scratch w.output

unfoldable pub compared_case : String → ℕ → String → ℕ → ℕ → Compared → Case
compared_case a root_a b root_b scratch c = compares a root_a b root_b scratch c.number c.equal c.scratch

unfoldable pub word_case : String → ℕ → ℕ → Word → Case
word_case message root k w = word message root k w.number w.value

-- a case with the answer that the definitions give
unfoldable pub told_case : Case → Case
told_case (decodes message registers number place words) = decoded_case message registers (decode_answer (bytes_of message) (small registers))
told_case (table message rows used root sound) = table message rows used root (sound_table (bytes_of message) (words_of rows) used root)
told_case (writes message root scratch output number bytes words after) =
    let d = decoded (bytes_of message) in
    written_case message root scratch output (write_answer (bytes_of message) d.tables.rows d.used root (replicate scratch 9) (bytes_of output))
told_case (compares a root_a b root_b scratch number equal words) =
    let d = decoded (bytes_of a) in
    let e = decoded (bytes_of b) in
    compared_case a root_a b root_b scratch (compare_answer (bytes_of a) d.tables.rows d.used root_a (bytes_of b) e.tables.rows e.used root_b (replicate scratch 9))
told_case (word message root k number value) =
    let d = decoded (bytes_of message) in
    word_case message root k (word_answer (bytes_of message) d.tables.rows d.used root k)

unfoldable pub told_cases : List Case → List Case
told_cases [] = []
told_cases (c ∷ cs) = told_case c ∷ told_cases cs

-- 2 touches nothing; any later refusal leaves zeros, and an accepted message zeros past its rows
unfoldable pub decoding : List Case
decoding =
    decodes "'a'$" 255 2 0 (replicate 12 9)
    ∷ decodes "" 0 2 0 (replicate 11 9)
    ∷ decodes "'a'$" 256 0 4 (2 ∷ 1 ∷ 1 ∷ replicate 9 0)
    ∷ decodes "'a'>a{a$" 256 10 7 (replicate 12 0)
    ∷ decodes "1 >a2 >a3 $" 256 12 8 (replicate 12 0)
    ∷ []

-- refusal 16, clause by clause, after a table that is sound
unfoldable pub soundness : List Case
soundness =
    table "abc" (row 1 0 7 0 ∷ row 5 0 0 0 ∷ row 6 0 1 0 ∷ row 7 0 0 0 ∷ row 8 2 3 0 ∷ row 9 0 3 4 ∷ []) 6 5 true
    -- more rows claimed than the table holds; the root not among them
    ∷ table "abc" (row 5 0 0 0 ∷ []) 2 0 false
    ∷ table "abc" (row 5 0 0 0 ∷ []) 1 1 false
    ∷ table "abc" [] 0 0 false
    -- rows past those claimed are not looked at
    ∷ table "abc" (row 5 0 0 0 ∷ row 0 0 0 0 ∷ []) 1 0 true
    -- an unknown kind
    ∷ table "abc" (row 0 0 0 0 ∷ []) 1 0 false
    ∷ table "abc" (row 10 0 0 0 ∷ []) 1 0 false
    -- a spare word that is not zero
    ∷ table "abc" (row 1 0 0 1 ∷ []) 1 0 false
    ∷ table "abc" (row 2 0 1 1 ∷ []) 1 0 false
    ∷ table "abc" (row 3 0 1 1 ∷ []) 1 0 false
    ∷ table "abc" (row 4 0 1 1 ∷ []) 1 0 false
    ∷ table "abc" (row 5 1 0 0 ∷ []) 1 0 false
    ∷ table "abc" (row 5 0 1 0 ∷ []) 1 0 false
    ∷ table "abc" (row 5 0 0 1 ∷ []) 1 0 false
    ∷ table "abc" (row 5 0 0 0 ∷ row 6 0 0 1 ∷ []) 2 1 false
    ∷ table "abc" (row 7 1 0 0 ∷ []) 1 0 false
    ∷ table "abc" (row 7 0 1 0 ∷ []) 1 0 false
    ∷ table "abc" (row 7 0 0 1 ∷ []) 1 0 false
    ∷ table "abc" (row 7 0 0 0 ∷ row 8 0 0 1 ∷ []) 2 1 false
    -- a span at the slice's end, and one past it
    ∷ table "abc" (row 4 3 0 0 ∷ []) 1 0 true
    ∷ table "abc" (row 4 1 3 0 ∷ []) 1 0 false
    ∷ table "abc" (row 4 4294967295 1 0 ∷ []) 1 0 false
    ∷ table "abc" (row 2 4 0 0 ∷ []) 1 0 false
    ∷ table "abc" (row 3 4 0 0 ∷ []) 1 0 false
    ∷ table "abc" (row 5 0 0 0 ∷ row 9 4 0 0 ∷ []) 2 1 false
    -- escapes and closing quotes, by the row's own quote; a binary has none
    ∷ table "\\'" (row 2 0 2 0 ∷ []) 1 0 true
    ∷ table "\\'" (row 2 0 1 0 ∷ []) 1 0 false
    ∷ table "\\'" (row 2 1 1 0 ∷ []) 1 0 false
    ∷ table "\\'" (row 3 0 2 0 ∷ []) 1 0 false
    ∷ table "\\'" (row 3 1 1 0 ∷ []) 1 0 true
    ∷ table "\"`" (row 3 0 1 0 ∷ []) 1 0 false
    ∷ table "\"`" (row 5 0 0 0 ∷ row 9 1 1 0 ∷ []) 2 1 false
    ∷ table "\\`" (row 5 0 0 0 ∷ row 9 0 1 0 ∷ []) 2 1 false
    ∷ table "\\`" (row 5 0 0 0 ∷ row 9 0 2 0 ∷ []) 2 1 true
    ∷ table "\\'" (row 4 0 1 0 ∷ []) 1 0 true
    -- a reference that is not earlier
    ∷ table "" (row 5 0 0 0 ∷ row 6 1 0 0 ∷ []) 2 1 false
    ∷ table "" (row 5 0 0 0 ∷ row 6 0 1 0 ∷ []) 2 1 false
    ∷ table "" (row 7 0 0 0 ∷ row 8 1 0 0 ∷ []) 2 1 false
    ∷ table "" (row 7 0 0 0 ∷ row 8 0 1 0 ∷ []) 2 1 false
    ∷ table "" (row 9 0 0 0 ∷ []) 1 0 false
    -- a rest of the wrong kind; one tuple row may be a value here and a rest there
    ∷ table "" (row 7 0 0 0 ∷ row 6 0 0 0 ∷ []) 2 1 false
    ∷ table "" (row 5 0 0 0 ∷ row 8 0 0 0 ∷ []) 2 1 false
    ∷ table "" (row 1 0 0 0 ∷ row 6 0 0 0 ∷ []) 2 1 false
    ∷ table "" (row 7 0 0 0 ∷ row 8 0 0 0 ∷ row 8 1 1 0 ∷ []) 3 2 true
    ∷ []

-- the writer: 2, 16, 15 in that order, and the bytes that it changes
unfoldable pub writing : List Case
unfolding bytes_of
writing =
    writes "-0 $" 0 1 "....." 0 3 (replicate 1 0) (bytes_of "0 $..")
    ∷ writes "-0 $" 0 1 "..." 0 3 (replicate 1 0) (bytes_of "0 $")
    ∷ writes "-0 $" 0 1 ".." 15 0 (replicate 1 0) (bytes_of "..")
    ∷ writes "-0 $" 1 1 ".." 16 0 (replicate 1 0) (bytes_of "..")
    ∷ writes "-0 $" 1 0 ".." 2 0 (replicate 0 9) (bytes_of "..")
    ∷ writes "-0 $" 0 3 "..." 0 3 (replicate 3 0) (bytes_of "0 $")
    ∷ writes "{1 `t`'a'}>a#a&$" 7 7 "................" 2 0 (replicate 7 9) (bytes_of "................")
    ∷ writes "{1 `t`'a'}>a#a&$" 7 8 "................" 0 13 (replicate 8 0) (bytes_of "#{1 `t`'a'}&$...")
    ∷ writes "{1 `t`'a'}>a#a&$" 1 8 "................" 0 6 (replicate 8 0) (bytes_of "1 `t`$..........")
    ∷ []

-- the comparison: 2, 16 in that order, equal and different
unfoldable pub comparing : List Case
comparing =
    compares "-0 $" 0 "0 $" 0 2 0 1 (replicate 2 0)
    ∷ compares "-0 $" 0 "0 $" 0 1 2 0 (replicate 1 9)
    ∷ compares "-0 $" 1 "0 $" 0 2 16 0 (replicate 2 0)
    ∷ compares "-0 $" 0 "0 $" 1 2 16 0 (replicate 2 0)
    ∷ compares "-0 $" 1 "0 $" 1 1 2 0 (replicate 1 9)
    ∷ compares "'a'$" 0 "\"a\"$" 0 2 0 0 (replicate 2 0)
    ∷ compares "'a'$" 0 "'a' %same%$" 0 2 0 1 (replicate 2 0)
    ∷ compares "{1 }$" 2 "#1 &$" 2 6 0 0 (replicate 6 0)
    ∷ compares "1 >a{aa}$" 3 "{1 1 }$" 4 9 0 1 (replicate 9 0)
    ∷ compares "1 >a{aa}$" 3 "{1 2 }$" 4 9 0 0 (replicate 9 0)
    ∷ compares "1 >a{aa}$" 2 "{1 1 }$" 4 9 0 0 (replicate 9 0)
    ∷ compares "1~a~$" 1 "\"a\"$" 0 3 0 0 (replicate 3 0)
    ∷ compares "1 `a`$" 1 "1 `b`$" 1 4 0 0 (replicate 4 0)
    ∷ []

-- the word reader: 16, 18, 19, 20 in that order, and words of every width
unfoldable pub reading : List Case
reading =
    word "2~\u{1}\u{2}~`u16be`$" 2 0 0 (pos 258)
    ∷ word "2~\u{1}\u{2}~`u16le`$" 2 0 0 (pos 513)
    ∷ word "2~ÿþ~`i16be`$" 2 0 0 (negsuc 1)
    ∷ word "2~ÿþ~`i16le`$" 2 0 0 (negsuc 256)
    ∷ word "2~ÿ\u{7f}~`u8`$" 2 0 0 (pos 255)
    ∷ word "2~\u{80}\u{7f}~`i8`$" 2 0 0 (negsuc 127)
    ∷ word "2~\u{80}\u{7f}~`i8`$" 2 1 0 (pos 127)
    ∷ word "4~\u{80}\0\0\0~`u32be`$" 2 0 0 (pos 2147483648)
    ∷ word "4~\u{80}\0\0\0~`u32le`$" 2 0 0 (pos 128)
    ∷ word "4~\u{80}\0\0\0~`i32be`$" 2 0 0 (negsuc 2147483647)
    ∷ word "4~\u{80}\0\0\0~`i32le`$" 2 0 0 (pos 128)
    ∷ word "8~\0\0\0\0þÿÿÿ~`i32le`$" 2 1 0 (negsuc 1)
    -- 20 at the count and past it; 19 before 20
    ∷ word "2~ab~`u8`$" 2 2 20 (pos 0)
    ∷ word "2~ab~`u16be`$" 2 18446744073709551615 20 (pos 0)
    ∷ word "0~~`u32le`$" 2 0 20 (pos 0)
    ∷ word "3~abc~`u16be`$" 2 0 19 (pos 0)
    ∷ word "3~abc~`u16be`$" 2 9 19 (pos 0)
    -- 18: no tag, an unknown name, a name spelled otherwise, a tag over a tag, a tag over anything but a binary; 18 before 19
    ∷ word "3~abc~`u16be`$" 0 0 18 (pos 0)
    ∷ word "3~abc~`u16be`$" 1 0 18 (pos 0)
    ∷ word "3~abc~`u16`$" 2 0 18 (pos 0)
    ∷ word "3~abc~`u16bex`$" 2 0 18 (pos 0)
    ∷ word "3~abc~`U16be`$" 2 0 18 (pos 0)
    ∷ word "2~ab~`u8``u8`$" 3 0 18 (pos 0)
    ∷ word "\"ab\"`u8`$" 1 0 18 (pos 0)
    ∷ word "'ab'`u8`$" 1 0 18 (pos 0)
    ∷ word "1 `u8`$" 1 0 18 (pos 0)
    ∷ word "#`u8`$" 1 0 18 (pos 0)
    ∷ word "{}`u8`$" 1 0 18 (pos 0)
    ∷ word "\"ab\"$" 0 0 18 (pos 0)
    ∷ word "'ab'$" 0 0 18 (pos 0)
    ∷ word "#$" 0 0 18 (pos 0)
    ∷ word "{}$" 0 0 18 (pos 0)
    -- 16: the row is not among those used
    ∷ word "2~ab~`u8`$" 3 0 16 (pos 0)
    ∷ []
