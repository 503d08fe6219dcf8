-- `text::write_rows` meets its contract: 16, 15, or the text stored.
use mathlib.Core.Path.{sym, ◌∙◌, subst}
use lib.Dec.{T}
use Rattle.text.proofs.Answered.{count_room, root_inside, rows_fail, too_long, has_room}
use Rattle.text.proofs.write_rows.Goals as goal

pub judge-requires : goal.judge-requires
judge-requires c = count_room _ _ _ c.requires

pub returns-then-not-judge : goal.returns-then-not-judge
returns-then-not-judge c = λ scratch. rows_fail _ _ _ scratch _ (sym c.judge.ensures.value ∙ c.if-not-judge.true)

pub invariant_of-sound : goal.invariant_of-sound
invariant_of-sound c =
    let sound = sym c.judge.ensures.value ∙ c.if-not-judge.false in
    rw c.judge.auto.lengths (record { fits = count_room _ _ _ c.requires; among = root_inside _ _ _ c.requires; sound = subst T (sym sound) tt })

pub returns-then-not-fits : goal.returns-then-not-fits
returns-then-not-fits c =
    let sound = sym c.judge.ensures.value ∙ c.if-not-judge.false in
    let long = rw c.judge.auto.lengths at (sym c.fits.ensures ∙ c.if-not-fits.true) in
    λ scratch. too_long _ _ _ sound scratch _ long

pub returns : goal.returns
returns c =
    let sound = sym c.judge.ensures.value ∙ c.if-not-judge.false in
    let room = rw c.judge.auto.lengths at (sym c.fits.ensures ∙ c.if-not-fits.false) in
    let stored = rw c.judge.auto.lengths at c.store_text.ensures.output_after in
    let many = rw c.judge.auto.lengths at c.store_text.ensures.value in
    λ scratch. has_room _ _ _ sound scratch _ room (stored, many)
