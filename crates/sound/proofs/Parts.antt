-- A row judged in two parts: by its words, then by its text.
use Prim.Native.Nat.{ℕ}
use Prim.Native.Char.{code}
use mathlib.Core.Path.{◌≡◌, refl}
use mathlib.Core.Bool.{Bool, true, false, ◌&&◌, and-true}
use mathlib.Core.List.{List}
use lib.Dec.{eqb, ltb}
use Rattle.format.specs.Rows.{Row, span_of}
use Rattle.format.specs.Sound.{spelled, in_slice, spelled_in, sound_row}
use Rattle.format.proofs.Tests.{either}
use Rattle.sound.specs.Parts.{sound_words, quote_of, sound_text}

-- a span's test may be made twice
twice : (x y z : Bool) → (x && (y && z)) ≡ ((x && y) && (y && z))
twice true true z = refl
twice true false z = refl
twice false y z = refl

twice-first : (x y z : Bool) → ((y && z) && x) ≡ ((y && x) && (y && z))
twice-first true true true = refl
twice-first true true false = refl
twice-first false true true = refl
twice-first false true false = refl
twice-first x false z = refl

module _ (message : List ℕ) (i : ℕ) (r : Row) where
  abbrev inside : Bool
  inside = in_slice message r.first r.second

  abbrev text : ℕ → Bool
  text quote = spelled quote false (span_of message r.first r.second)

  in_parts : sound_row message i r ≡ (sound_words message i r && sound_text message r)
  unfolding sound_row sound_words sound_text quote_of spelled_in
  in_parts =
      either r.kind 1 (λ q. rw (q, and-true)) λ n1.
      either r.kind 2 (λ q. rw q (twice (eqb r.third 0) inside (text (code "'")))) λ n2.
      either r.kind 3 (λ q. rw q (twice (eqb r.third 0) inside (text (code "\"")))) λ n3.
      either r.kind 4 (λ q. rw (q, and-true)) λ n4.
      either r.kind 5 (λ q. rw (q, and-true)) λ n5.
      either r.kind 6 (λ q. rw (q, and-true)) λ n6.
      either r.kind 7 (λ q. rw (q, and-true)) λ n7.
      either r.kind 8 (λ q. rw (q, and-true)) λ n8.
      either r.kind 9 (λ q. rw q (twice-first (ltb r.third i) inside (text (code "`")))) λ n9.
      rw (n1, n2, n3, n4, n5, n6, n7, n8, n9)

  pub words_fail : sound_words message i r ≡ false → sound_row message i r ≡ false
  words_fail e = rw (in_parts, e)

  module _ (words : sound_words message i r ≡ true) where
    pub text_fails : sound_text message r ≡ false → sound_row message i r ≡ false
    text_fails e = rw (in_parts, words, e)

    pub both-pass : sound_text message r ≡ true → sound_row message i r ≡ true
    both-pass e = rw (in_parts, words, e)
