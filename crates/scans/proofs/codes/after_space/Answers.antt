-- `after_space` meets its contract: a LF, a space, or another byte.
use Rattle.std.proofs.Common.{◌+◌, ◌∙◌}
use Rattle.scans.proofs.Unknown.{rest, space_none, space_found, space_on, space_end}
use Rattle.scans.proofs.codes.after_space.Goals as goal

pub returns-then-b-eq10 : goal.returns-then-b-eq10
returns-then-b-eq10 c = let l = c.loop-i in space_none c.args.s.now l.i l.invariant c.loop-i-test.true c.if-b-eq10.true

pub returns-then-b-eq32 : goal.returns-then-b-eq32
returns-then-b-eq32 c = let l = c.loop-i in
    rest c.args.s.now (l.i + 1) ∙ space_found c.args.s.now l.i l.invariant c.loop-i-test.true c.if-b-eq10.false c.if-b-eq32.true

pub loop-i-preserved : goal.loop-i-preserved
loop-i-preserved c = let l = c.loop-i in space_on c.args.s.now l.i l.invariant c.loop-i-test.true c.if-b-eq10.false c.if-b-eq32.false

pub returns : goal.returns
returns c = space_end c.args.s.now c.loop-i.i c.loop-i.invariant c.loop-i-test.false
