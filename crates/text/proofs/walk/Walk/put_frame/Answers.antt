-- `text::walk::Walk::put_frame` meets its contract: a turn of the frame by the kind of its row.
use mathlib.Core.Path.{refl, sym, ap, ◌∙◌}
use native.Mathlib.Omega.{arith}
use Rattle.format.specs.Kinds.{kind_number}
use Rattle.text.specs.Walk.{frame_row}
use Rattle.text.proofs.Turns.{turn_of, stacked, falls, room-first, top_in_bounds, frame-room, cell, no_other}
use Rattle.text.proofs.Turns.{rest-tuple, rest-above, rest-room, fields_text, tag_fits, tag-turned}
use Rattle.text.proofs.walk.Walk.put_frame.Goals as goal

pub offset_bounds-self-self : goal.offset_bounds-self-self
offset_bounds-self-self c = omega (arith, top_in_bounds (turn_of c.requires) c.args.self.now.stack_words)

pub bounds-self-self : goal.bounds-self-self
bounds-self-self c = top_in_bounds (turn_of c.requires) c.args.self.now.stack_words

pub read_row-words-requires : goal.read_row-words-requires
unfolding frame_row
read_row-words-requires c = frame-room (turn_of c.requires)

pub put_fields-requires : goal.put_fields-requires
unfolding frame_row
put_fields-requires c =
    let turn = turn_of c.requires in
    let field = sym c.in-Ok-Field.ensures ∙ ap kind_number c.in-Ok-Field.field-0-is in
    record {
      tuple = rest-tuple turn c.read_row-words.ensures field;
      above = rest-above turn c.read_row-words.ensures field;
      room = rest-room turn c.read_row-words.ensures field;
    }

pub span-requires : goal.span-requires
unfolding frame_row
span-requires c =
    let tag = sym c.in-Ok-Tag.ensures ∙ ap kind_number c.in-Ok-Tag.field-0-is in
    (tag_fits (turn_of c.requires) c.read_row-words.ensures tag).0

pub put_quoted-requires : goal.put_quoted-requires
unfolding frame_row
put_quoted-requires c =
    let tag = sym c.in-Ok-Tag.ensures ∙ ap kind_number c.in-Ok-Tag.field-0-is in
    let fits = (tag_fits (turn_of c.requires) c.read_row-words.ensures tag).1 in
    rw c.span.ensures fits

pub put_item-requires : goal.put_item-requires
unfolding frame_row
put_item-requires c =
    let turn = turn_of c.requires in
    record {
      falling = falls turn;
      room = room-first turn;
      cell = cell turn c.read_row-words.ensures (sym c.in-Ok-Cons.ensures ∙ ap kind_number c.in-Ok-Cons.field-0-is);
    }

pub unreachable-requires : goal.unreachable-requires
unfolding frame_row
unreachable-requires c = no_other (turn_of c.requires) c.read_row-words.ensures (λ e. grind arith) (λ e. grind arith) (λ e. grind arith)

pub returns-in-Ok-Field-clause-gone_on : goal.returns-in-Ok-Field-clause-gone_on
unfolding frame_row
returns-in-Ok-Field-clause-gone_on c =
    let field = sym c.in-Ok-Field.ensures ∙ ap kind_number c.in-Ok-Field.field-0-is in
    let on = c.put_fields.ensures.gone_on in
    record {
      same = on.same;
      ready = on.ready;
      part = rw (fields_text (turn_of c.requires) c.read_row-words.ensures field) on.part;
    }

pub returns-in-Ok-Tag-clause-gone_on : goal.returns-in-Ok-Tag-clause-gone_on
unfolding frame_row
returns-in-Ok-Tag-clause-gone_on c =
    let tag = sym c.in-Ok-Tag.ensures ∙ ap kind_number c.in-Ok-Tag.field-0-is in
    let put = c.put_quoted.ensures in
    let done = tag-turned (turn_of c.requires) c.read_row-words.ensures tag (rw c.span.ensures at put.bytes) (rw c.span.ensures at put.at) in
    record { same = record { table = refl; stack = refl; output = put.same }; ready = done.ready; part = done.part }

pub returns-in-Ok-Cons-clause-gone_on : goal.returns-in-Ok-Cons-clause-gone_on
unfolding frame_row
returns-in-Ok-Cons-clause-gone_on c =
    let on = c.put_item.ensures.gone_on in
    record {
      same = on.same;
      ready = on.ready;
      part = rw (stacked (turn_of c.requires)) on.part;
    }
