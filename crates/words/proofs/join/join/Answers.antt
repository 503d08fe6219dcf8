-- `words::join::join` meets its contract: the machine joins the bytes in the order named.
use mathlib.Core.Path.{◌∙◌}
use Rattle.std.proofs.Common.{rules}
use Rattle.std.proofs.lemmas.Iterator.{YieldsList-from_slice}
use Rattle.std.proofs.lemmas.Iterator.Adapters.{YieldsList-from_rev_slice}
use Rattle.std.proofs.lemmas.Iterator.Consumers.{fold_from_yields_List}
use Rattle.format.specs.Word.{big, little}
use Rattle.words.specs.Known.{order_of}
use Rattle.words.proofs.Joins as laws
use Rattle.words.proofs.join.join.Goals as goal

pub returns-in-Big : goal.returns-in-Big
unfolding order_of
returns-in-Big c =
    let bytes = c.args.bytes.now in
    let told = fold_from_yields_List _ laws.shifted 0 _ c.fold.ensures.ran (YieldsList-from_slice bytes cc) (λ h x b q k. search rules) in
    rw c.in-Big.is (told ∙ laws.shifted-ordered big bytes (λ i. (c.type_inv.bytes i).fits) c.requires)

pub returns-in-Little : goal.returns-in-Little
unfolding order_of
returns-in-Little c =
    let bytes = c.args.bytes.now in
    let told = fold_from_yields_List _ laws.shifted 0 _ c.fold-in-Little.ensures.ran (YieldsList-from_rev_slice bytes cc) (λ h x b q k. search rules) in
    rw c.in-Little.is (told ∙ laws.shifted-ordered little bytes (λ i. (c.type_inv.bytes i).fits) c.requires)
