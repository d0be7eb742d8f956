-- `some_wrong` meets its contract. Invariant: whether some master below i has a wrong count.
use mathlib.Core.Path.{refl}
use native.Mathlib.Omega.{arith}
use Rattle.rulebook.specs.Columns.{some_below}
use Rattle.keeping.proofs.Stored.{some_next}
use Rattle.judging.proofs.form.some_wrong.Goals as goal

pub loop-i-init : goal.loop-i-init
unfolding some_below
loop-i-init c = (omega arith, refl)

pub loop-i-preserved : goal.loop-i-preserved
loop-i-preserved c = let l = c.loop-i in (omega arith, some_next _ _ _ _ l.invariant.1 refl)
