-- `sound::sound_rows` meets its contract: the rows from a place on are judged as all of them are.
use mathlib.Core.Path.{sym, ◌∙◌}
use native.Mathlib.Omega.{arith}
use Rattle.sound.proofs.Parts.{words_fail, text_fails, both-pass}
use Rattle.sound.proofs.Judged as laws
use Rattle.sound.proofs.sound_rows.Goals as goal

pub loop-i-init : goal.loop-i-init
loop-i-init c = laws.begins _ _ _

pub returns-then-not-sound_words : goal.returns-then-not-sound_words
returns-then-not-sound_words c =
    let unsound = words_fail _ _ _ (sym c.sound_words.ensures ∙ c.if-not-sound_words.true) in
    sym (laws.row_fails _ _ _ (omega arith) _ (omega arith) _ c.read_row-words.ensures unsound) ∙ c.loop-i.invariant

pub returns-then-not-sound_text : goal.returns-then-not-sound_text
returns-then-not-sound_text c =
    let words = sym c.sound_words.ensures ∙ c.if-not-sound_words.false in
    let unsound = text_fails _ _ _ words (sym c.sound_text.ensures ∙ c.if-not-sound_text.true) in
    sym (laws.row_fails _ _ _ (omega arith) _ (omega arith) _ c.read_row-words.ensures unsound) ∙ c.loop-i.invariant

pub rest_fits-requires : goal.rest_fits-requires
rest_fits-requires c =
    let words = sym c.sound_words.ensures ∙ c.if-not-sound_words.false in
    let sound = both-pass _ _ _ words (sym c.sound_text.ensures ∙ c.if-not-sound_text.false) in
    let row = c.read_row-words.ensures in (
      laws.cons-room _ _ _ (omega arith) _ c.loop-i-test.true _ row sound,
      laws.field_room _ _ _ (omega arith) _ c.loop-i-test.true _ row sound,
    )

pub returns-then-not-rest_fits : goal.returns-then-not-rest_fits
returns-then-not-rest_fits c =
    let words = sym c.sound_words.ensures ∙ c.if-not-sound_words.false in
    let sound = both-pass _ _ _ words (sym c.sound_text.ensures ∙ c.if-not-sound_text.false) in
    let rest = sym c.rest_fits.ensures ∙ c.if-not-rest_fits.true in
    sym (laws.rest_fails _ _ _ (omega arith) _ (omega arith) _ c.read_row-words.ensures sound rest) ∙ c.loop-i.invariant

pub loop-i-preserved : goal.loop-i-preserved
loop-i-preserved c =
    let words = sym c.sound_words.ensures ∙ c.if-not-sound_words.false in
    let sound = both-pass _ _ _ words (sym c.sound_text.ensures ∙ c.if-not-sound_text.false) in
    let rest = sym c.rest_fits.ensures ∙ c.if-not-rest_fits.false in
    sym (laws.passes _ _ _ (omega arith) _ (omega arith) _ c.read_row-words.ensures sound rest) ∙ c.loop-i.invariant

pub returns : goal.returns
returns c = sym (laws.ends _ _ _ _ (omega arith)) ∙ c.loop-i.invariant
