-- The arms of the watch, over plain values.
--
--   of_fixed             == a fixed burst's watch
--   on_g2_lem, on_g3_lem == a watch after a later cycle
use Prim.Native.Nat.{ℕ, ◌-◌}
use mathlib.Core.Path.{◌≡◌}
use mathlib.Core.Bool.{Bool, cond}
use Rattle.rules.specs.declared.Burst.{Burst}
use Rattle.rules.specs.declared.Burst.TheVariants.{Fixed}
use Rattle.rules.specs.declared.Cycle.{Cycle}
use Rattle.rulebook.specs.declared.Watch.{Watch}
use Rattle.rulebook.specs.declared.Watch.TheVariants.{Nothing, OnG2, OnG3}
use Rattle.rulebook.specs.Columns.{is_ready, owners_request}
use Rattle.rulebook.specs.Charges.{g3_with, burst_watch, later_watch}

pub of_fixed : (b : Burst) (k less : ℕ) (r : Watch) → b ≡ Fixed k → less ≡ k - 1 → r ≡ g3_with less → r ≡ burst_watch b
of_fixed b k less r e f g = rw (e, ← f) g

pub on_g2_lem : (w r : Watch) (c : Cycle) (request : Bool) → w ≡ OnG2 → request ≡ owners_request c → r ≡ cond request OnG2 Nothing → r ≡ later_watch w c
on_g2_lem w r c request e f g = rw (e, ← f) g

pub on_g3_lem : (w r next : Watch) (c : Cycle) (k less : ℕ) → w ≡ OnG3 k → less ≡ k - 1 → next ≡ g3_with less → r ≡ cond (is_ready c) next (OnG3 k) → r ≡ later_watch w c
on_g3_lem w r next c k less e f g h = rw (e, ← f) (rw g at h)
