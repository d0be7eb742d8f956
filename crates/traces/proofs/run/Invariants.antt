-- `run` meets its contract. The loop's invariant: the block is taken so far, and where the loop is to end, the next line is not taken.
-- The measure: what is left of the block, and whether the loop goes on.
use Prim.Native.Nat.{◌+◌, ◌-◌}
use mathlib.Core.Path.{◌≡◌}
use mathlib.Core.Bool.{false}
use lib.ListN.{length, drop}
use Rattle.rules.specs.Step.{flag_of}
use Rattle.streams.specs.Judging.{judge_turn}
use Rattle.streams.specs.Going.{Going}
use Rattle.streams.specs.Breaches.{Formed}
use Rattle.traces.specs.Stops.{NotTaken}
use Rattle.traces.proofs.run.Given as goal

abbrev pub invariant-loop-on : goal.invariant-loop-on
invariant-loop-on l = Going judge_turn 31 315 Formed l.initial.tally l.block l.initial.out l.tally l.at l.out l.w × (l.on ≡ false → NotTaken l.tally (drop l.at l.block))

abbrev pub decreases-loop-on : goal.decreases-loop-on
decreases-loop-on l = length l.block - l.at + flag_of l.on
