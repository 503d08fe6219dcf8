-- The code's sides and rows as the definitions have them; for the functions inside.
use Rattle.table.specs.Words.{row_of}
use Rattle.comparison.specs.Classes as C
use Rattle.comparison.specs.Classes.{side}
use Rattle.comparison.specs.Same as S
use Rattle.comparison.specs.Same.{placed}
use Rattle.comparison.specs.declared.side.Side.{Side}
use Rattle.comparison.specs.declared.side.Placed.{Placed}

abbrev pub side_of : Side → C.Side
side_of s = side s.message.now s.rows.now s.used

abbrev pub placed_of : Placed → S.Placed
placed_of x = placed x.message.now x.base (row_of x.row)
