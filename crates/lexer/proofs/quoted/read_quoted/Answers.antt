-- `lexer::quoted::read_quoted` meets its contract: what is found from a place on is what is found from the first place on.
use native.Mathlib.Omega.{arith}
use Rattle.scan.proofs.Runs.{not-before}
use Rattle.lexer.proofs.Scans as laws
use Rattle.lexer.proofs.quoted.read_quoted.Goals as goal
use Rattle.lexer.proofs.quoted.read_quoted.Goals.{else-b-ne-BACKSLASH-via-then-b-ne-BACKSLASH+else-b-quote, else-b-ne-BACKSLASH-via-else-b-ne-BACKSLASH}

pub loop-i-init : goal.loop-i-init
loop-i-init c = laws.begins _ _ _ _

pub returns-then-b-quote : goal.returns-then-b-quote
returns-then-b-quote c = laws.strays _ _ _ c.loop-i.invariant c.loop-i-test.true c.if-open.true c.if-b-ne-BACKSLASH.true c.if-b-quote.true

pub loop-i-preserved-then-open : goal.loop-i-preserved-then-open
loop-i-preserved-then-open c =
    elim c.else-b-ne-BACKSLASH.branch [
      | else-b-ne-BACKSLASH-via-then-b-ne-BACKSLASH+else-b-quote w ↦ laws.escaped_quote _ _ _ c.loop-i.invariant c.loop-i-test.true c.if-open.true w.if-b-quote.false
      | else-b-ne-BACKSLASH-via-else-b-ne-BACKSLASH w ↦ laws.backslash _ _ _ c.loop-i.invariant c.loop-i-test.true c.if-open.true w.if-b-ne-BACKSLASH.false
    ]

pub returns-then-message-p : goal.returns-then-message-p
returns-then-message-p c =
    let run = laws.whole _ _ _ c.plain_end-p.ensures in
    laws.run_ends _ _ _ c.loop-i.invariant c.if-open.false (omega arith) (omega arith) run c.if-message-p.true

pub overflow_sub-count : goal.overflow_sub-count
overflow_sub-count c = omega (arith, not-before _ _ _ c.plain_end-p.ensures)

pub returns-then-message-p-2 : goal.returns-then-message-p-2
returns-then-message-p-2 c =
    let run = laws.whole _ _ _ c.plain_end-p.ensures in
    laws.run-closes _ _ _ c.loop-i.invariant c.if-open.false (omega arith) (omega arith) run c.if-message-p.false c.if-message-p-2.true

pub loop-i-smaller : goal.loop-i-smaller
loop-i-smaller c = omega (arith, not-before _ _ _ c.plain_end-p.ensures)

pub loop-i-preserved : goal.loop-i-preserved
loop-i-preserved c =
    let run = laws.whole _ _ _ c.plain_end-p.ensures in
    laws.run-opens _ _ _ c.loop-i.invariant c.if-open.false (omega arith) (omega arith) run c.if-message-p.false c.if-message-p-2.false

pub returns : goal.returns
returns c = laws.ends _ _ _ c.loop-i.invariant c.loop-i-test.false
