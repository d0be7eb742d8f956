-- The cases P1 to P12 come out as the page says, at every count below the limit.
use Prim.Native.Nat.{ℕ, ◌<◌}
use mathlib.Core.Path.{◌≡◌}
use mathlib.Core.List.{map}
use native.Mathlib.Omega.{arith}
use borrow.Author.Tests.{le-leb, lt-leb}
use Rattle.rules.specs.Codes.{burst_of, most_cycles}
use Rattle.rules.specs.Masks.{high}
use Rattle.rules.specs.Valid.{inputs_too_large, inputs_not_built, inputs_absent, inputs_check}
use Rattle.rules.specs.Winner.{next, walk, winner}
use Rattle.rules.specs.State.{reset_of, phase_ok, well_formed}
use Rattle.rules.specs.Phase.{seen, phase_after, opens_later, decides}
use Rattle.rules.specs.Step.{chosen, granted_after, owner_after, lock_after, moved, shown, accepted, step_of}
use Rattle.rules.specs.Cases.{look, cases, wanted}

pub table : (k : ℕ) → k < most_cycles → map look (cases k) ≡ wanted k
unfolding look cases wanted burst_of high inputs_too_large inputs_not_built inputs_absent inputs_check next walk winner reset_of phase_ok well_formed seen phase_after opens_later decides chosen granted_after owner_after lock_after moved shown accepted step_of
table k below = rw (le-leb k 1000000 (omega arith), lt-leb 1000000 k below)
