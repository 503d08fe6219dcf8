-- The structs of include/ubfa.h hold the paper's numbers and values: each beside the buffers at the end is the whole answer.
use Rattle.std.specs.Prelude.{ℕ, List}
use Rattle.format.specs.Answer as A
use Rattle.format.specs.Answer.{Tables}
use Rattle.format.specs.Word as F
use Rattle.ubfa.specs.declared.UbfaDecoded.{UbfaDecoded}
use Rattle.ubfa.specs.declared.UbfaWritten.{UbfaWritten}
use Rattle.ubfa.specs.declared.UbfaCompared.{UbfaCompared}
use Rattle.ubfa.specs.declared.UbfaWord.{UbfaWord}

-- ubfa_decoded
unfoldable pub decoded_struct : UbfaDecoded → Tables → A.Decoded
decoded_struct r t = record { number = r.number; place = r.place; root = r.root; used = r.rows; tables = t }

-- ubfa_written
unfoldable pub written_struct : UbfaWritten → List ℕ → List ℕ → A.Written
written_struct r scratch output = record { number = r.number; bytes = r.bytes; scratch = scratch; output = output }

-- ubfa_compared
unfoldable pub compared_struct : UbfaCompared → List ℕ → A.Compared
compared_struct r scratch = record { number = r.number; equal = r.equal; scratch = scratch }

-- ubfa_word
unfoldable pub word_struct : UbfaWord → F.Word
word_struct r = record { number = r.number; value = r.value }
