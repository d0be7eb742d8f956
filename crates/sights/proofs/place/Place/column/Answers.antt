-- `column` meets its contract: there is no line, or one that changes nothing, or one that does.
use Rattle.sights.proofs.Passing.{kept, changed, another}
use Rattle.sights.proofs.place.Place.column.Goals as goal

pub returns-in_default : goal.returns-in_default
returns-in_default c = λ w k line. kept w k _ _ _

pub returns-then-u-v : goal.returns-then-u-v
returns-then-u-v c = λ w k line. kept w k _ _ _

pub returns : goal.returns
returns c = λ w k line. changed w k _ _ _ c.in-Some.u _ (another _ _ _ c.if-u-v.false) (rw c.in-Some.is at line)
