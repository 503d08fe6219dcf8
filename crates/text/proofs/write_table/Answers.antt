-- `text::write_table` meets its contract: 16 by the claims of the table, or what its rows give.
use mathlib.Core.Path.{sym, ◌∙◌}
use Rattle.text.proofs.Answered.{count_fails, root_fails, by_rows}
use Rattle.text.proofs.write_table.Goals as goal

pub returns-then-not-count_fits : goal.returns-then-not-count_fits
returns-then-not-count_fits c =
    let p = c.requires in
    count_fails _ _ _ _ _ _ p.0 p.1 (sym c.count_fits.ensures ∙ c.if-not-count_fits.true)

pub returns-then-not-root_among : goal.returns-then-not-root_among
returns-then-not-root_among c =
    let p = c.requires in
    root_fails _ _ _ _ _ _ p.0 p.1 (sym c.count_fits.ensures ∙ c.if-not-count_fits.false) (sym c.root_among.ensures ∙ c.if-not-root_among.true)

pub returns : goal.returns
returns c =
    let p = c.requires in
    by_rows _ _ _ _ _ _ p.0 p.1 (sym c.count_fits.ensures ∙ c.if-not-count_fits.false)
    (sym c.root_among.ensures ∙ c.if-not-root_among.false) _ _ (c.write_rows.ensures _)
