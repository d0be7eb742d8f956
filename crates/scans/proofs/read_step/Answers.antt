-- `read_step` meets its contract: the four ends of its tests.
use Rattle.scans.proofs.Answers.{no_masters, beyond, no_more, inside}
use Rattle.scans.proofs.read_step.Goals as goal

pub returns-then-not-masters_ok : goal.returns-then-not-masters_ok
returns-then-not-masters_ok c = search no_masters

pub returns-then-s-at : goal.returns-then-s-at
returns-then-s-at c = search beyond

pub returns-then-at-s : goal.returns-then-at-s
returns-then-at-s c = search no_more

pub returns : goal.returns
returns c = search inside
