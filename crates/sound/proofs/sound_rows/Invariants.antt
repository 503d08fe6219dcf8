-- `sound::sound_rows` meets its contract: the rows from a place on are judged as all of them are.
use mathlib.Core.Path.{◌≡◌}
use Rattle.format.specs.Rows.{rows_of}
use Rattle.format.specs.Sound.{sound_rows}
use Rattle.sound.proofs.Judged as laws
use Rattle.sound.proofs.sound_rows.Given as goal

abbrev pub invariant-loop-i : goal.invariant-loop-i
invariant-loop-i l = laws.from l.message l.rows l.used l.i ≡ sound_rows l.message (rows_of l.used l.rows)
