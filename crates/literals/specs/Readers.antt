-- What the items make of what the readers answer, and of a row.
use Rattle.std.specs.Prelude.{ℕ, ◌-◌, false, cond, List, ℤ, pos, negsuc, eqb, Result, Ok, Err}
use Prim.Native.Char.{code}
use Rattle.std.proofs.Math.Option.{Option, none, some}
use Rattle.format.specs.Lex.{Item, tag_item, comment_item, quoted, digits, integer_of, negative}
use Rattle.format.specs.declared.Offset.{Offset}
use Rattle.lexer.specs.Integer.{with_sign}
use Rattle.lexer.specs.declared.integer.Begun.{Begun}
use Rattle.lexer.specs.declared.integer.Begun.TheVariants.{Minus, Digits}
use Rattle.lexer.specs.declared.integer.NoInteger.{NoInteger}
use Rattle.lexer.specs.declared.quoted.Quoted.{Quoted}
use Rattle.lexer.specs.declared.quoted.Unclosed.{Unclosed}
use Rattle.format.specs.declared.refusal.Refusal.{Refusal}
use Rattle.format.specs.declared.refusal.Refusal.TheVariants.{Cut, Stray, OutOfRange, WrongKind, Negative}
use Rattle.format.specs.declared.refusal.Refused.{Refused}

-- the refusal of quoted text that is not closed
unfoldable pub unclosed_as : Unclosed → Offset → Refused
unclosed_as (Unclosed.Stray p) ended = record { refusal = Stray; place = p }
unclosed_as (Unclosed.Ended escaped) ended = record { refusal = Cut; place = ended }

-- quoted text, or its refusal
abbrev pub closed_as : Result Quoted Unclosed → Offset → Result Quoted Refused
closed_as (Ok q) ended = Ok q
closed_as (Err why) ended = Err (unclosed_as why ended)

-- the refusal where no integer is read at `at`
unfoldable pub no_integer_as : NoInteger → Offset → Offset → Refused
no_integer_as NoInteger.OutOfRange at ended = record { refusal = OutOfRange; place = at }
no_integer_as (NoInteger.Stray p) at ended = record { refusal = Stray; place = p }
no_integer_as (NoInteger.Ended begun) at ended = record { refusal = Cut; place = ended }

-- what the first byte of an integer begins
unfoldable pub begun_by : ℕ → Begun
begun_by b = cond (eqb b (code "-")) Minus (Digits false (b - code "0"))

-- the item of an integer whose first byte is read, before the bytes r
unfoldable pub begun_item : Begun → List ℕ → Item
begun_item Minus r = negative r
begun_item (Digits minus v) r = integer_of (with_sign minus) (digits v 0 r)

-- a tag and a comment after their opening quote, before the bytes r
abbrev pub tag_text : List ℕ → Item
tag_text r = quoted (code "`") tag_item r

abbrev pub comment_text : List ℕ → Item
comment_text r = quoted (code "%") comment_item r

-- what serves as a count
unfoldable pub count_as : Option ℤ → Result ℕ Refusal
count_as none = Err WrongKind
count_as (some (negsuc n)) = Err Negative
count_as (some (pos n)) = Ok n
