-- `sound::is_spelled` meets its contract: the bytes from a place on are judged as all of them are.
use Rattle.std.proofs.Common.{sym, ◌∙◌, arith}
use Rattle.scan.proofs.Runs.{not-before}
use Rattle.sound.proofs.Spelled as laws
use Rattle.sound.proofs.is_spelled.Goals as goal
use Rattle.sound.proofs.is_spelled.Goals.{then-text-next-via-then-text-next, then-text-next-via-else-text-next+then-not-may_follow}

pub returns-then-text-p : goal.returns-then-text-p
returns-then-text-p c =
    let run = c.plain_end_by_blocks-p.ensures in
    sym (laws.run_ends _ _ (omega arith) run c.if-text-p.true) ∙ c.loop-i.invariant

pub returns-then-text-p-2 : goal.returns-then-text-p-2
returns-then-text-p-2 c =
    let run = c.plain_end_by_blocks-p.ensures in
    sym (laws.run-closes _ _ (omega arith) run c.if-text-p.false c.if-text-p-2.true) ∙ c.loop-i.invariant

pub returns-then-text-next : goal.returns-then-text-next
returns-then-text-next c =
    let run = c.plain_end_by_blocks-p.ensures in
    let more = c.if-text-p.false in
    let stays = c.if-text-p-2.false in
    elim c.then-text-next.branch [
      | then-text-next-via-then-text-next w ↦
          sym (laws.run-cut _ _ (omega arith) run more stays w.if-text-next.true) ∙ c.loop-i.invariant
      | then-text-next-via-else-text-next+then-not-may_follow w ↦
          let stray = sym w.may_follow.ensures ∙ w.if-not-may_follow.true in
          sym (laws.run-strays _ _ (omega arith) run more stays w.if-text-next.false stray) ∙ c.loop-i.invariant
    ]

pub loop-i-smaller : goal.loop-i-smaller
loop-i-smaller c = omega (arith, not-before _ _ _ c.plain_end_by_blocks-p.ensures)

pub loop-i-preserved : goal.loop-i-preserved
loop-i-preserved c =
    let run = c.plain_end_by_blocks-p.ensures in
    let follows = sym c.may_follow.ensures ∙ c.if-not-may_follow.false in
    let passed = laws.run-follows _ _ (omega arith) run c.if-text-p.false c.if-text-p-2.false in
    sym (passed c.if-text-next.false follows) ∙ c.loop-i.invariant

pub returns : goal.returns
returns c = sym (laws.ends _ _ _ c.loop-i-test.false) ∙ c.loop-i.invariant
