-- What a tag's name says of the words under it.
use Prim.Native.Nat.{ℕ}
use mathlib.Core.Path.{◌≡◌, refl, ap}
use mathlib.Core.Option as M
use mathlib.Core.Option.{none, some}
use mathlib.Core.List.{List}
use Rattle.std.specs.declared.option.Option.TheVariants.{Some, None}
use Rattle.format.specs.Term as T
use Rattle.format.specs.Term.{Term}
use Rattle.format.specs.Word as F
use Rattle.format.specs.Word.{no_word, word_of, word_in, word_under, word_named}
use Rattle.words.specs.declared.layout.Layout.{Layout}
use Rattle.words.specs.Known.{format_of, nameless, said, found}

-- the name is not known
pub unknown : (o : M.Option F.Format) (t : Term) (k : ℕ) → said None ≡ found o → no_word 18 ≡ word_named o t k
unfolding word_named said found
unknown none t k e = refl
unknown (some f) t k e = cc

-- it is, and says how the words lie
pub known : (o : M.Option F.Format) (layout : Layout) (block : List ℕ) (k : ℕ) → said (Some layout) ≡ found o
    → word_in (format_of layout) block k ≡ word_named o (T.binary block) k
unfolding word_named word_under word_in word_of said found
known none layout block k e = cc
known (some f) layout block k e = let says : format_of layout ≡ nameless f = cc in ap (λ (g : F.Format). word_in g block k) says
