-- `few` meets its contract. The loop's invariant: the characters so far are those of the number so far.
use Rattle.std.proofs.Common.{◌≡◌, ◌<◌, ◌^◌, take}
use Rattle.waves.specs.Variables.{bits}
use Rattle.sights.proofs.columns.few.Given as goal

abbrev pub invariant-loop-b : goal.invariant-loop-b
invariant-loop-b l = (l.v < 2 ^ l.b-index) × (take l.b-index l.s ≡ bits l.b-index l.v)
