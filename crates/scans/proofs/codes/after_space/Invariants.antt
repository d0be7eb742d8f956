-- `after_space` meets its contract. The loop's invariant: the space is still to come.
use Rattle.std.proofs.Common.{◌≡◌, drop}
use Rattle.waves.specs.Reading.{after_space}
use Rattle.scans.proofs.codes.after_space.Given as goal

abbrev pub invariant-loop-i : goal.invariant-loop-i
invariant-loop-i l = after_space l.s ≡ after_space (drop l.i l.s)
