-- `put_few` meets its contract: one bit more.
use native.Mathlib.Omega.{arith}
use Rattle.dumps.proofs.Bits.{bit_put}
use Rattle.dumps.proofs.lines.put_few.Goals as goal

pub loop-i-preserved : goal.loop-i-preserved
loop-i-preserved c = let l = c.loop-i in
    bit_put l.buf _ l.i c.args.width c.args.at c.args.v (omega arith) l.invariant
