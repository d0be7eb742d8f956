-- `opened` meets its contract, arm by arm.
use Rattle.buses.proofs.Phases.{some_beats, opens_incr, opens_fixed, opens_none}
use Rattle.buses.proofs.course.opened.Goals as goal

pub overflow_sub-result : goal.overflow_sub-result
overflow_sub-result c = search some_beats

pub returns-in-Single : goal.returns-in-Single
returns-in-Single c = opens_none _ _ _ c.burst.ensures c.in-Single.is

pub returns-in-Unspecified : goal.returns-in-Unspecified
returns-in-Unspecified c = search opens_incr

pub returns-in-Fixed : goal.returns-in-Fixed
returns-in-Fixed c = search opens_fixed
