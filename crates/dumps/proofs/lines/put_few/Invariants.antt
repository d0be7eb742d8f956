-- `put_few` meets its contract. Invariant: with the bits to come the buffer is what it is to be.
use Prim.Native.Nat.{◌+◌, ◌-◌}
use mathlib.Core.Path.{◌≡◌}
use lib.Seq.{sets}
use Rattle.waves.specs.Variables.{bits}
use Rattle.dumps.proofs.lines.put_few.Given as goal

abbrev pub invariant-loop-i : goal.invariant-loop-i
invariant-loop-i l = sets l.buf (l.at + l.i) (bits (l.width - l.i) l.v) ≡ sets l.initial.buf l.at (bits l.width l.v)
