-- `unknown_in` meets its contract. The loop's invariant: an unknown code is still to come.
use Rattle.std.proofs.Common.{◌≡◌, false, drop}
use Rattle.waves.specs.Reading.{unknown_from}
use Rattle.scans.proofs.codes.unknown_in.Given as goal

abbrev pub invariant-loop-i : goal.invariant-loop-i
invariant-loop-i l = unknown_from false l.s ≡ unknown_from l.starts (drop l.i l.s)
