-- `some_wrong` meets its contract. Invariant: whether some master below i has a wrong count.
use Prim.Native.Nat.{◌≤◌}
use mathlib.Core.Path.{◌≡◌}
use Rattle.rulebook.specs.Columns.{some_below}
use Rattle.rulebook.specs.State.{wrong_count}
use Rattle.judging.proofs.form.some_wrong.Given as goal

abbrev pub invariant-loop-i : goal.invariant-loop-i
invariant-loop-i l = (l.i ≤ 16) × (l.hit ≡ some_below l.i (wrong_count l.n l.fn.lost))
