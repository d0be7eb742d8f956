-- `put_breaches` meets its contract. The loop's invariant: the lines of the rules below i are written. The measure: the rules left.
use borrow.Author.Rules.{rules}
use Rattle.reports.proofs.Reports.{inside, not_none, one_more, all_reported}
use Rattle.reports.proofs.put_breaches.Goals as goal

pub rule_at-requires : goal.rule_at-requires
rule_at-requires c = let l = c.loop-m in inside l.invariant (not_none l.m c.loop-m-test.true)

pub loop-m-preserved : goal.loop-m-preserved
loop-m-preserved c = one_more c.loop-m.invariant (not_none c.loop-m.m c.loop-m-test.true) c.rule_at.ensures (search rules) c.put_breach-w.ensures

pub returns : goal.returns
returns c = all_reported c.loop-m.invariant c.loop-m-test.false
