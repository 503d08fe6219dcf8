-- `words::formats::find` meets its contract: the entries passed so far are not the one that is looked for.
use Rattle.words.proofs.Names as laws
use Rattle.words.proofs.formats.find.Given as goal

abbrev pub invariant-loop-format : goal.invariant-loop-format
invariant-loop-format l = laws.Passed l.number l.format-index l.format-items
