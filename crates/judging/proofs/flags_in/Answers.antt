-- `flags_in` meets its contract. The loop's invariant: the digits below i are stored.
use Rattle.judging.proofs.Digits.{spread_next, spread_all}
use Rattle.judging.proofs.flags_in.Goals as goal

pub loop-flag-preserved : goal.loop-flag-preserved
loop-flag-preserved c = spread_next _ _ _ _ c.loop-flag.invariant c.loop-flag-test.true

pub returns : goal.returns
returns c = spread_all _ _ _ _ c.loop-flag.invariant c.loop-flag-test.false
