-- The classes of the code, as those that 'Bytes and items' defines.
use Rattle.format.specs.Byte as B
use Rattle.format.specs.declared.class.Class.{Class}
use Rattle.format.specs.declared.class.Class.TheVariants as C

-- the class that the code's class stands for
abbrev pub class_as : Class → B.Class
class_as C.White = B.white
class_as C.Digit = B.digit
class_as C.Minus = B.minus
class_as C.AtomQuote = B.atom_quote
class_as C.StringQuote = B.string_quote
class_as C.TagQuote = B.tag_quote
class_as C.CommentQuote = B.comment_quote
class_as C.LeftBrace = B.left_brace
class_as C.RightBrace = B.right_brace
class_as C.Tilde = B.tilde
class_as C.Hash = B.hash
class_as C.Ampersand = B.ampersand
class_as C.Dollar = B.dollar
class_as C.Greater = B.greater
class_as C.Comma = B.comma
class_as C.Register = B.register
