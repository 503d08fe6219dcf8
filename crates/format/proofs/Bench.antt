-- Theorem 1: the definitions give each line of the bench tables and each of our cases back; and how many bytes of a class there are.
use mathlib.Core.Path.{◌≡◌, refl}
use Rattle.format.specs.Byte as B
use Rattle.format.specs.Byte.{bytes_of, same_bytes, class_of, class_in, specials, has_class, count_below}
use Rattle.format.specs.Term.{terms_from}
use Rattle.format.specs.Text.{digits_on, natural_on, decimal_on, text_on, plain}
use Rattle.format.specs.Lex.{scan, quoted_item, digits, in_range, integer_of, negative, store, item_of, lex}
use Rattle.format.specs.Lex as L
use Rattle.format.specs.Machine.{base, start, fresh, set_register, pop, take_binary, cons_list, close_tuple, push_register, only_value, end_message, step, bounded, follow, run_from, run}
use Rattle.format.specs.Meaning.{term_integer, term_is_list, items_of, term_of}
use Rattle.format.specs.Bits.{to_bits, from_bits}
use Rattle.format.specs.Rows.{integer_row, span_row, nil_row, cons_row, end_row, field_row, tag_row, add, add_tuple, make_rows, row_at, integer_of_row, row_integer, is_list_kind, is_tuple_kind, fields_of, term_of_row, terms_after, term_at, words_of, rows_of, row_room}
use Rattle.format.specs.Sound.{spelled, in_slice, spelled_in, count_fits, root_among, sound_row, sound_rest, sound_after, sound_rows, sound_table}
use Rattle.format.specs.Word.{formats, format_in, join_after, joined, word_of, word_in, word_under, word_named, word_of_term}
use Rattle.format.specs.Answer.{write_refusal, write_text, write_answer, compare_refusal, compare_answer, word_answer, over_bound, zeroed, limits_of, rows_in, cleared, decode_refusal, decode_result, decode_answer}
use Rattle.format.specs.Bench.{lend, claim_of, claimed, told, told_all, marked_p, refusals, acceptances}
use Rattle.format.specs.Cases.{told_case, told_cases, small, decoded_case, decoded, written_case, compared_case, word_case, decoding, soundness, writing, comparing, reading}

-- one name for the definitions that running a message goes through
unfoldable pub machine : Unit {0}
unfolding bytes_of class_of class_in specials has_class terms_from scan quoted_item L.quoted digits in_range integer_of negative store item_of lex base start fresh set_register pop take_binary cons_list close_tuple push_register only_value end_message step bounded follow run_from run term_integer term_is_list items_of term_of to_bits from_bits integer_row span_row nil_row cons_row end_row field_row tag_row add add_tuple make_rows row_at integer_of_row row_integer is_list_kind
machine = tt

-- and one for what the answers add to that
answering : Unit {0}
unfolding machine digits_on natural_on decimal_on text_on plain words_of rows_of row_room over_bound zeroed limits_of rows_in cleared decode_refusal decode_result decode_answer lend
answering = tt

-- the lines marked P, and by the same statement our own
pub bench : (told_all marked_p ≡ marked_p) × (told_all refusals ≡ refusals) × (told_all acceptances ≡ acceptances)
unfolding answering claim_of claimed told told_all marked_p refusals acceptances
bench = (refl, refl, refl)

-- our cases for what the answers add
pub cases : (told_cases decoding ≡ decoding) × (told_cases soundness ≡ soundness) × (told_cases writing ≡ writing) × (told_cases comparing ≡ comparing) × (told_cases reading ≡ reading)
unfolding answering told_case told_cases small decoded_case decoded written_case compared_case word_case decoding soundness writing comparing reading same_bytes fields_of term_of_row terms_after term_at is_tuple_kind spelled in_slice spelled_in count_fits root_among sound_row sound_rest sound_after sound_rows sound_table formats format_in join_after joined word_of word_in word_under word_named word_of_term write_refusal write_text write_answer compare_refusal compare_answer word_answer
cases = (refl, refl, refl, refl, refl)

-- 229 registers, four white bytes, and a comma with no meaning
pub byte_counts : (count_below 256 B.register ≡ 229) × (count_below 256 B.white ≡ 4) × (count_below 256 B.comma ≡ 1)
unfolding count_below has_class class_of class_in specials
byte_counts = (refl, refl, refl)
