-- `line_size` meets its contract. The loop's invariant: the LF is still to come.
use Rattle.std.proofs.Common.{◌≡◌, ◌+◌, drop}
use Rattle.waves.specs.Reading.{line_size}
use Rattle.scans.proofs.walk.line_size.Given as goal

abbrev pub invariant-loop-i : goal.invariant-loop-i
invariant-loop-i l = line_size l.s ≡ l.i + line_size (drop l.i l.s)
