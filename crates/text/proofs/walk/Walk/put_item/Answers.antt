-- `text::walk::Walk::put_item` meets its contract.
use mathlib.Core.Path.{refl, sym, ◌∙◌}
use native.Mathlib.Omega.{arith}
use Rattle.text.proofs.Items.{cell_of, frame-fits, item_room, begun-fits, begun-done, leaf-fits, and-fits, item-done, into}
use Rattle.text.proofs.walk.Walk.put_item.Goals as goal

pub put_byte-requires : goal.put_byte-requires
put_byte-requires c = begun-fits (cell_of c.requires) c.if-frame-ge-ITEM_BEGUN.true

pub returns-then-frame-ge-ITEM_BEGUN-clause-gone_on : goal.returns-then-frame-ge-ITEM_BEGUN-clause-gone_on
returns-then-frame-ge-ITEM_BEGUN-clause-gone_on c =
    let put = c.put_byte.ensures in
    let done = begun-done (cell_of c.requires) c.if-frame-ge-ITEM_BEGUN.true put.bytes put.at in
    record { same = record { table = refl; stack = refl; output = put.same }; ready = done.ready; part = done.part }

pub read_row-words-requires : goal.read_row-words-requires
read_row-words-requires c = item_room (cell_of c.requires)

pub put-requires : goal.put-requires
put-requires c =
    let leaf = sym c.is_leaf.ensures ∙ c.if-is_leaf.true in
    let all = leaf-fits (cell_of c.requires) c.if-frame-ge-ITEM_BEGUN.false c.read_row-words.ensures leaf in
    record { inside = all.0; room = all.1 }

pub put_byte-requires-then-is_leaf : goal.put_byte-requires-then-is_leaf
put_byte-requires-then-is_leaf c =
    let leaf = sym c.is_leaf.ensures ∙ c.if-is_leaf.true in
    and-fits (cell_of c.requires) c.if-frame-ge-ITEM_BEGUN.false c.read_row-words.ensures leaf c.put.ensures.bytes c.put.ensures.at

pub returns-then-is_leaf-clause-gone_on : goal.returns-then-is_leaf-clause-gone_on
returns-then-is_leaf-clause-gone_on c =
    let leaf = sym c.is_leaf.ensures ∙ c.if-is_leaf.true in
    let put = c.put.ensures in
    let and = c.put_byte-then-is_leaf.ensures in
    let done = item-done (cell_of c.requires) c.if-frame-ge-ITEM_BEGUN.false c.read_row-words.ensures leaf put.bytes put.at and.bytes and.at in
    record { same = record { table = refl; stack = refl; output = and.same ∙ put.same }; ready = done.ready; part = done.part }

pub offset_bounds-self-self : goal.offset_bounds-self-self
offset_bounds-self-self c = omega (arith, frame-fits (cell_of c.requires) c.args.self.now.stack_words)

pub bounds-self-self : goal.bounds-self-self
bounds-self-self c = frame-fits (cell_of c.requires) c.args.self.now.stack_words

pub overflow_add-self-2 : goal.overflow_add-self-2
overflow_add-self-2 c = omega (arith, frame-fits (cell_of c.requires) c.args.self.now.stack_words)

pub returns-clause-gone_on : goal.returns-clause-gone_on
returns-clause-gone_on c =
    let above = into (cell_of c.requires) c.if-frame-ge-ITEM_BEGUN.false c.read_row-words.ensures c.args.self.now.stack_words in
    record { same = record { table = refl; stack = refl; output = refl }; ready = above.ready; part = above.part }
