-- `text::count::fits` meets its contract: what is still to be counted has the room that is left exactly where the whole text had the room.
use mathlib.Core.Path.{◌≡◌}
use Rattle.text.specs.Stack.{on_stack}
use Rattle.text.proofs.Counts.{work, to_count, Counting}
use Rattle.text.proofs.count.fits.Given as goal

abbrev pub invariant-loop-row : goal.invariant-loop-row
invariant-loop-row l = record {
  same_words : l.rest.words.ghost_name ≡ l.initial.rest.words.ghost_name;
  counting : Counting l.table (to_count l.table (on_stack l.initial.rest)) l.initial.left l.rest l.left;
}

abbrev pub decreases-loop-row : goal.decreases-loop-row
decreases-loop-row l = work (on_stack l.rest)
