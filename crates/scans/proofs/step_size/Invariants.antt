-- `step_size` meets its contract. The loop's invariant: the step goes on up to i.
use Rattle.scans.proofs.Ends.{Ending}
use Rattle.scans.proofs.step_size.Given as goal

abbrev pub invariant-loop-i : goal.invariant-loop-i
invariant-loop-i l = Ending l.s l.i
