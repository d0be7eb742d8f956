-- `winner` meets its contract. Invariant: what is left of the walk has the winner of the whole. Measure: the masters left.
use Prim.Native.Nat.{◌<◌}
use mathlib.Core.Path.{◌≡◌}
use Rattle.rules.specs.Winner.{walk as walk_from, winner as winner_of}
use Rattle.buses.proofs.walk.winner.Given as goal

abbrev pub invariant-loop-left : goal.invariant-loop-left
invariant-loop-left l = (winner_of l.n l.g l.m ≡ walk_from l.n l.m l.left l.i) × (l.i < 16)

abbrev pub decreases-loop-left : goal.decreases-loop-left
decreases-loop-left l = l.left
