-- `after_digits` meets its contract. The loop's invariant: the digits before i are those of v.
use Rattle.sights.specs.Clock.{Counting}
use Rattle.sights.proofs.time.after_digits.Given as goal

abbrev pub invariant-loop-i : goal.invariant-loop-i
invariant-loop-i l = Counting l.s l.v l.i
