-- `format::class::classes` meets its contract, by the table's rule.
use mathlib.Core.Path.{refl}
use Rattle.format.specs.Byte.{class_of, class_in, specials}
use Rattle.format.specs.Classes.{class_as}
use Rattle.format.specs.declared.class.Class.TheVariants.{White}
use Rattle.format.specs.declared.class.TheConstants.{CLASSES}
use Rattle.format.proofs.Table.{entry}
use Rattle.format.proofs.class.classes.Goals as goal

pub returns : goal.returns
unfolding class_of class_in specials
returns c b h = entry class_as class_of CLASSES 256 White refl b h
