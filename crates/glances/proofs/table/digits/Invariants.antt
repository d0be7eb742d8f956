-- `digits` meets its contract. Invariant: the digits of the bytes passed are in their places.
use Rattle.std.proofs.Common.{◌≡◌, length}
use Rattle.glances.proofs.Entries.{To}
use Rattle.glances.proofs.table.digits.Given as goal

abbrev pub invariant-loop-b : goal.invariant-loop-b
invariant-loop-b l = (length l.table ≡ 1024) × To l.b l.table
