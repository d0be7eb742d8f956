-- `keep` meets its contract: by whether the previous cycle decided.
use mathlib.Core.Path.{◌∙◌}
use Rattle.keeping.proofs.Lost.{lost_decided, lost_kept, reached_decided}
use Rattle.keeping.proofs.keep.Goals as goal

pub returns-then-j-p : goal.returns-then-j-p
returns-then-j-p c = (search lost_decided, search reached_decided)

pub returns-else-j-p : goal.returns-else-j-p
returns-else-j-p c = (search lost_kept, c.keep_lost.ensures.1 ∙ rw c.if-j-p.false)
