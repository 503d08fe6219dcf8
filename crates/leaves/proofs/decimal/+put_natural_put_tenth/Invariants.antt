-- `leaves::decimal::put_natural` and `leaves::decimal::put_tenth`, which call each other, end, since the number, which is the measure of both, falls to its
-- tenth.
use Rattle.leaves.proofs.decimal.+put_natural_put_tenth.Given as goal

abbrev pub decreases-put_natural : goal.decreases-put_natural
decreases-put_natural l = l.n

abbrev pub decreases-put_tenth : goal.decreases-put_tenth
decreases-put_tenth l = l.n
