-- `bits_in` meets its contract. The loop's invariant: the characters so far are bits, and v is their number.
use Rattle.scans.proofs.Bits.{Reading}
use Rattle.scans.proofs.walk.bits_in.Given as goal

abbrev pub invariant-loop-b : goal.invariant-loop-b
invariant-loop-b l = Reading l.s l.v l.b-index
