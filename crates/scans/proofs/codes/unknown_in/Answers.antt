-- `unknown_in` meets its contract: one byte after the other.
use Rattle.scans.proofs.Unknown.{one_unknown, looking_on, none_unknown}
use Rattle.scans.proofs.codes.unknown_in.Goals as goal

pub returns-then-starts-unknown : goal.returns-then-starts-unknown
returns-then-starts-unknown c = let l = c.loop-i in
    one_unknown c.args.s.now l.starts l.i l.invariant c.loop-i-test.true _ c.unknown_at-unknown.ensures c.if-starts-unknown.true

pub loop-i-preserved : goal.loop-i-preserved
loop-i-preserved c = let l = c.loop-i in
    looking_on c.args.s.now l.starts l.i l.invariant c.loop-i-test.true _ c.unknown_at-unknown.ensures c.if-starts-unknown.false

pub returns : goal.returns
returns c = none_unknown c.args.s.now c.loop-i.starts c.loop-i.i c.loop-i.invariant c.loop-i-test.false
