-- `table::clear` meets its contract: cleared from the first word on, a table is filled with zeros.
use mathlib.Core.Path.{◌∙◌}
use Rattle.table.proofs.Cleared.{cleared-all}
use Rattle.table.proofs.clear.Goals as goal

pub returns : goal.returns
returns c = c.clear_from.ensures ∙ cleared-all c.args.words.now
