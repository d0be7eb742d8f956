-- `give` ends: each write that goes on takes a byte at least.
use Rattle.std.proofs.Common.{◌-◌, length}
use Rattle.console.proofs.Output.give.Given as goal

abbrev pub decreases-loop-done : goal.decreases-loop-done
decreases-loop-done g l = length l.bytes - l.done
