-- `charged` meets its contract: each flag is that of its rule.
use Rattle.charging.proofs.Order.{at_first, later}
use Rattle.charging.proofs.charged.Goals as goal

pub returns-then-j-eq0 : goal.returns-then-j-eq0
returns-then-j-eq0 c = search at_first

pub returns-else-j-eq0 : goal.returns-else-j-eq0
returns-else-j-eq0 c = search later
