-- `step_in` meets its contract: the four ends of its tests.
use Rattle.scans.proofs.Answers.{other_time, full, unknown, known}
use Rattle.scans.proofs.step_in.Goals as goal

pub returns-then-has-right : goal.returns-then-has-right
returns-then-has-right c = search other_time

pub returns-then-t-right : goal.returns-then-t-right
returns-then-t-right c = search full

pub returns-then-unknown_in : goal.returns-then-unknown_in
returns-then-unknown_in c = search unknown

pub returns : goal.returns
returns c = search known
