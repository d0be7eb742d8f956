-- `rule` meets its contract: 10, then 8, then the rest.
use Rattle.judging.proofs.Close.{malformed, full, gone_on}
use Rattle.judging.proofs.rule.Goals as goal

pub returns-then-not-well_formed : goal.returns-then-not-well_formed
returns-then-not-well_formed c = search malformed

pub returns-then-j-ge1000000 : goal.returns-then-j-ge1000000
returns-then-j-ge1000000 c = search full

pub returns : goal.returns
returns c = search gone_on
