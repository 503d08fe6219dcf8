-- `words::join::number` meets its contract, by the laws over the width.
use mathlib.Core.Path.{◌≡◌, ◌∙◌}
use mathlib.Core.Bool.{true}
use borrow.Author.Tests.{not-false}
use mir.Syntax.{w64}
use mir.ValLaws.{to_z-of_z}
use Rattle.words.proofs.Numbers as laws
use Rattle.words.proofs.join.number.Goals as goal

pub returns-then-bits-values : goal.returns-then-bits-values
returns-then-bits-values c =
    let l = c.args.layout in
    let signed : l.signed ≡ true = not-false l.signed c.if-not-layout.false in
    rw signed (laws.lower-number l _ c.requires c.if-bits-values.true)

pub overflow_cast-result-3 : goal.overflow_cast-result-3
overflow_cast-result-3 c = let l = c.args.layout in rw (laws.all_values l _ c.requires) (laws.values_fit l _ c.requires)

pub overflow_sub-result : goal.overflow_sub-result
overflow_sub-result c =
    let l = c.args.layout in
    rw (laws.upper-number l _ c.requires c.if-bits-values.false) (laws.number_fits l _ c.requires)

pub returns : goal.returns
returns c =
    let l = c.args.layout in
    let signed : l.signed ≡ true = not-false l.signed c.if-not-layout.false in
    let upper = laws.upper-number l _ c.requires c.if-bits-values.false in
    rw signed (to_z-of_z w64 _ (rw upper (laws.number_fits l _ c.requires)) ∙ upper)
