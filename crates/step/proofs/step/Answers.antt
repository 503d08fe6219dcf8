-- `step::step` meets its contract: the class of the first byte tells the item, and each item does what the machine's step does.
use Rattle.format.specs.declared.class.Class.TheVariants as C
use Rattle.format.specs.Lex.{item_of}
use Rattle.step.proofs.Classes.{lex_of, integer-lex, integer-first}
use Rattle.literals.proofs.Spans.{atoms, strings}
use Rattle.machine.specs.Held.{turned}
use Rattle.machine.proofs.Lent.{as-lent}
use Rattle.operators.proofs.Steps.{stray}
use Rattle.step.proofs.step.Goals as goal

pub integer_item-requires : goal.integer_item-requires
integer_item-requires c = integer-first _ c.requires (search) c.in-Digit.is

pub returns-in-Digit : goal.returns-in-Digit
returns-in-Digit c = rw (integer-lex _ c.requires (search) c.in-Digit.is _) c.integer_item.ensures

pub returns-in-White : goal.returns-in-White
unfolding item_of
returns-in-White c = rw (lex_of _ c.requires C.White _ c.in-White.is) (c.white_item.ensures _ _)

pub returns-in-AtomQuote : goal.returns-in-AtomQuote
unfolding item_of
returns-in-AtomQuote c = rw (lex_of _ c.requires C.AtomQuote _ c.in-AtomQuote.is) (c.quoted_item.ensures.turn _ atoms)

pub returns-in-StringQuote : goal.returns-in-StringQuote
unfolding item_of
returns-in-StringQuote c = rw (lex_of _ c.requires C.StringQuote _ c.in-StringQuote.is) (c.quoted_item-in-StringQuote.ensures.turn _ strings)

pub returns-in-TagQuote : goal.returns-in-TagQuote
unfolding item_of
returns-in-TagQuote c = rw (lex_of _ c.requires C.TagQuote _ c.in-TagQuote.is) c.tag_item.ensures

pub returns-in-CommentQuote : goal.returns-in-CommentQuote
unfolding item_of
returns-in-CommentQuote c = rw (lex_of _ c.requires C.CommentQuote _ c.in-CommentQuote.is) (c.comment_item.ensures _)

pub returns-in-LeftBrace : goal.returns-in-LeftBrace
unfolding item_of
returns-in-LeftBrace c = rw (lex_of _ c.requires C.LeftBrace _ c.in-LeftBrace.is) (c.open_item.ensures _)

pub returns-in-RightBrace : goal.returns-in-RightBrace
unfolding item_of
returns-in-RightBrace c = rw (lex_of _ c.requires C.RightBrace _ c.in-RightBrace.is) (c.close_item.ensures _)

pub returns-in-Tilde : goal.returns-in-Tilde
unfolding item_of
returns-in-Tilde c = rw (lex_of _ c.requires C.Tilde _ c.in-Tilde.is) c.binary_item.ensures

pub returns-in-Hash : goal.returns-in-Hash
unfolding item_of
returns-in-Hash c = rw (lex_of _ c.requires C.Hash _ c.in-Hash.is) (c.nil_item.ensures _)

pub returns-in-Ampersand : goal.returns-in-Ampersand
unfolding item_of
returns-in-Ampersand c = rw (lex_of _ c.requires C.Ampersand _ c.in-Ampersand.is) (c.cons_item.ensures _)

pub returns-in-Dollar : goal.returns-in-Dollar
unfolding item_of
returns-in-Dollar c = rw (lex_of _ c.requires C.Dollar _ c.in-Dollar.is) (c.end_item.ensures _)

pub returns-in-Greater : goal.returns-in-Greater
unfolding item_of
returns-in-Greater c = rw (lex_of _ c.requires C.Greater _ c.in-Greater.is) c.store_item.ensures

pub returns-in-Register : goal.returns-in-Register
unfolding item_of
returns-in-Register c = rw (lex_of _ c.requires C.Register _ c.in-Register.is) (c.push_item.ensures _)

pub returns-in-Comma : goal.returns-in-Comma
unfolding item_of turned
returns-in-Comma c = rw (lex_of _ c.requires C.Comma _ c.in-Comma.is) (rw c.refused_at.ensures (as-lent c.args.machine.now (stray _ _ _)))
