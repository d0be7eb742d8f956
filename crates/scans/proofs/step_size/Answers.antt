-- `step_size` meets its contract: its end, or one byte further.
use Rattle.std.proofs.Common.{◌≡◌, ◌∙◌, arith}
use Rattle.scans.proofs.Ends.{ending_start, ended_whole, ended_at, ending_on}
use Rattle.scans.proofs.step_size.Goals as goal

pub loop-i-init : goal.loop-i-init
loop-i-init c = ending_start c.args.s.now

pub returns-then-s-i : goal.returns-then-s-i
returns-then-s-i c = let l = c.loop-i in (ended_at c.args.s.now l.i l.invariant (omega arith) (omega arith) _ c.byte_at-next.ensures c.if-s-i.true, omega arith)

pub loop-i-preserved : goal.loop-i-preserved
loop-i-preserved c = let l = c.loop-i in ending_on c.args.s.now l.i l.invariant (omega arith) (omega arith) _ c.byte_at-next.ensures c.if-s-i.false

pub returns : goal.returns
returns c = let l = c.loop-i in
    let same : c.min-most.result ≡ l.i = omega arith in
    (same ∙ ended_whole c.args.s.now l.i l.invariant (omega (arith, c.min-most.ensures)), omega (arith, c.min-most.ensures))
