-- `count_lost` meets its contract. Invariant: the counts below i are stored, nothing else has changed, and whether one of them reached the limit.
use Prim.Native.Nat.{◌≤◌}
use mathlib.Core.Path.{◌≡◌}
use lib.ListN.{length, take}
use Rattle.rulebook.specs.Columns.{some_below}
use Rattle.rulebook.specs.Charges.{list_from}
use Rattle.keeping.specs.Lost.{with_lost, count_by, reaches_by}
use Rattle.keeping.proofs.counts.count_lost.Given as goal

abbrev pub invariant-loop-i : goal.invariant-loop-i
invariant-loop-i l = (l.i ≤ 16) × (length l.next.lost ≡ 16) × (l.next ≡ with_lost l.initial.next l.next.lost) × (take l.i l.next.lost ≡ list_from 0 l.i (count_by l.n l.requests l.grants l.fn.j.lost)) × (l.reached ≡ some_below l.i (reaches_by l.n l.requests l.grants l.fn.j.lost))
