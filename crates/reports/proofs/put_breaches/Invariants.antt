-- `put_breaches` meets its contract. The loop's invariant: the lines of the rules below i are written. The measure: the rules left.
use Prim.Native.Nat.{◌-◌}
use Rattle.reports.proofs.Reports.{Reporting}
use Rattle.reports.proofs.put_breaches.Given as goal

abbrev pub invariant-loop-m : goal.invariant-loop-m
invariant-loop-m l = Reporting l.cycle l.charged l.initial.out l.m l.i l.w l.count l.out

abbrev pub decreases-loop-m : goal.decreases-loop-m
decreases-loop-m l = 21 - l.i
