-- `measure::judge` meets its contract: the rows passed are judged, and measured where all rows are sound.
use mathlib.Core.Path.{refl, sym, ◌∙◌}
use native.Mathlib.Omega.{arith}
use Rattle.sound.proofs.Parts.{words_fail, text_fails, both-pass}
use Rattle.measure.proofs.Lengths as laws
use Rattle.measure.proofs.judge.Goals as goal

pub loop-i-init : goal.loop-i-init
loop-i-init c = laws.begins _ _ _ (omega arith) _ refl

pub overflow_cast-n : goal.overflow_cast-n
overflow_cast-n c = omega (arith, laws.row_number _ _ _ _ _ _ c.loop-i.invariant (omega arith))

pub returns-then-not-sound_words : goal.returns-then-not-sound_words
returns-then-not-sound_words c = let unsound = words_fail _ _ _ (sym c.sound_words.ensures ∙ c.if-not-sound_words.true) in
    let all = laws.row_fails _ _ _ _ _ _ c.loop-i.invariant (omega arith) c.read_row-words.ensures unsound in
    record { value = all.0; measured = all.1.0; lengths_after = all.1.1 }

pub returns-then-not-sound_text : goal.returns-then-not-sound_text
returns-then-not-sound_text c =
    let words = sym c.sound_words.ensures ∙ c.if-not-sound_words.false in
    let unsound = text_fails _ _ _ words (sym c.sound_text.ensures ∙ c.if-not-sound_text.true) in
    let all = laws.row_fails _ _ _ _ _ _ c.loop-i.invariant (omega arith) c.read_row-words.ensures unsound in
    record { value = all.0; measured = all.1.0; lengths_after = all.1.1 }

pub rest_fits-requires : goal.rest_fits-requires
rest_fits-requires c =
    let words = sym c.sound_words.ensures ∙ c.if-not-sound_words.false in
    let sound = both-pass _ _ _ words (sym c.sound_text.ensures ∙ c.if-not-sound_text.false) in
    laws.rest-room _ _ _ _ _ _ c.loop-i.invariant (omega arith) c.read_row-words.ensures sound

pub returns-then-not-rest_fits : goal.returns-then-not-rest_fits
returns-then-not-rest_fits c =
    let words = sym c.sound_words.ensures ∙ c.if-not-sound_words.false in
    let sound = both-pass _ _ _ words (sym c.sound_text.ensures ∙ c.if-not-sound_text.false) in
    let rest = sym c.rest_fits.ensures ∙ c.if-not-rest_fits.true in
    let all = laws.rest_fails _ _ _ _ _ _ c.loop-i.invariant (omega arith) c.read_row-words.ensures sound rest in
    record { value = all.0; measured = all.1.0; lengths_after = all.1.1 }

pub row_length-bytes-requires : goal.row_length-bytes-requires
row_length-bytes-requires c =
    let words = sym c.sound_words.ensures ∙ c.if-not-sound_words.false in
    let sound = both-pass _ _ _ words (sym c.sound_text.ensures ∙ c.if-not-sound_text.false) in
    laws.names-before _ _ _ _ _ _ c.loop-i.invariant (omega arith) c.read_row-words.ensures sound

pub loop-i-preserved : goal.loop-i-preserved
loop-i-preserved c =
    let words = sym c.sound_words.ensures ∙ c.if-not-sound_words.false in
    let sound = both-pass _ _ _ words (sym c.sound_text.ensures ∙ c.if-not-sound_text.false) in
    let rest = sym c.rest_fits.ensures ∙ c.if-not-rest_fits.false in
    laws.next_row _ _ _ _ _ _ c.loop-i.invariant (omega arith) c.read_row-words.ensures sound rest c.row_length-bytes.ensures c.cap.ensures

pub returns : goal.returns
returns c =
    let all = laws.all_judged _ _ _ _ _ _ c.loop-i.invariant (omega arith) in
    record { value = all.0; measured = all.1.0; lengths_after = all.1.1 }
