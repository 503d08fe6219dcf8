-- `text::room::fits` meets its contract: by the root's length where its word tells it, or by a count.
use Rattle.measure.proofs.Lengths.{exact, too_long}
use Rattle.text.proofs.room.fits.Goals as goal

pub returns-then-n-lt-LONGEST : goal.returns-then-n-lt-LONGEST
returns-then-n-lt-LONGEST c = exact _ _ _ (c.requires.measured _ c.args.table.among) c.if-n-lt-LONGEST.true

pub returns-then-room : goal.returns-then-room
returns-then-room c = too_long _ _ _ (c.requires.measured _ c.args.table.among) c.if-n-lt-LONGEST.false c.if-room.true
