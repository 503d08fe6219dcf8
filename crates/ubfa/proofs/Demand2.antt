-- Demand 2's last sentence, of `ubfa_decode` and `ubfa_read_word` together.
use Prim.Native.Nat.{ℕ}
use mathlib.Core.Path.{◌≡◌, ◌∙◌}
use mathlib.Core.List.{List}
use native.Mathlib.Omega.{arith}
use Rattle.format.specs.Word.{Format, word_in}
use Rattle.demands.proofs.SensorWords.{block_word}
use Rattle.ubfa.specs.Answers.{word_struct}
use Rattle.ubfa.specs.Demand2.{ReadsWord, AcceptedWords}
use Rattle.ubfa.specs.declared.UbfaWord.{UbfaWord}
use Rattle.ubfa.proofs.Accepted.{accepted_of, as_accepted}

reads : (f : Format) (bytes : List ℕ) (k : ℕ) (w : UbfaWord) → word_struct w ≡ word_in f bytes k → ReadsWord f bytes k w
unfolding word_struct word_in
reads f bytes k w e = record {
  number = λ even inside. grind arith;
  value = λ even inside. grind arith;
  past = λ even over. grind arith;
  uneven = λ odd. grind arith;
}

pub accepted-words : AcceptedWords
accepted-words message t u a promise zero row name bytes at f known k w answer =
    reads f bytes k w (answer ∙ block_word message t u (accepted_of a) (as_accepted message t u a promise zero) row name bytes at f known k)
