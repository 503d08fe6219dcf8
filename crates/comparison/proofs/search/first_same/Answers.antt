-- `comparison::search::first_same` meets its contract: none of the rows passed leads, and the one answered does.
use mathlib.Core.Path.{sym, ◌∙◌}
use Rattle.comparison.proofs.Tested as laws
use Rattle.comparison.proofs.search.first_same.Goals as goal
use Rattle.comparison.proofs.search.first_same.Goals.{else-classes-n-via-then-classes-n+else-same_row, else-classes-n-via-else-classes-n}

pub returns-then-same_row : goal.returns-then-same_row
returns-then-same_row c =
    laws.agrees _ _ _ _ _ _ c.loop-i.invariant c.if-classes-n.true _ c.row_at.ensures _ c.loop-i-test.true (sym c.same_row.ensures ∙ c.if-same_row.true)

pub loop-i-preserved : goal.loop-i-preserved
loop-i-preserved c =
    elim c.else-classes-n.branch [
      | else-classes-n-via-then-classes-n+else-same_row w ↦
          laws.differs _ _ _ _ _ _ c.loop-i.invariant w.if-classes-n.true _ w.row_at.ensures (sym w.same_row.ensures ∙ w.if-same_row.false)
      | else-classes-n-via-else-classes-n w ↦ laws.follows _ _ _ _ _ _ c.loop-i.invariant w.if-classes-n.false
    ]

pub returns : goal.returns
returns c = laws.misses _ _ _ _ _ _ _ c.loop-i.auto.i-end c.loop-i-test.false c.loop-i.invariant
