-- `put_vector` meets its contract: the line, or none.
use Prim.Native.Nat.{◌+◌}
use native.Mathlib.Omega.{arith}
use Rattle.waves.specs.Variables.{bits}
use Rattle.dumps.specs.Changed.{variable}
use Rattle.dumps.proofs.Bits.{bits_length, vector_line}
use Rattle.dumps.proofs.Puts.{put_none, put_line, line_stores, line_end, line_short}
use Rattle.dumps.proofs.lines.put_vector.Goals as goal

pub returns-then-all-u : goal.returns-then-all-u
returns-then-all-u c = let a = c.args in
    let bs = bits a.width a.u in let n = bits_length a.width a.u in
    put_line a.buf.now a.at a.all (variable a.width a.code) a.v a.u (a.width + 4) _ _ _ c.if-all-u.true (vector_line a.code a.u a.width c.requires.0)
    (line_end bs a.at (a.at + a.width + 1) a.code (omega (arith, n))) (line_short bs a.width a.code n) (line_stores a.buf.now _ bs a.at (a.at + a.width + 1) a.code c.put_bits.ensures (omega (arith, n)))

pub returns-else-all-u : goal.returns-else-all-u
returns-else-all-u c = let a = c.args in put_none a.buf.now a.at a.all (variable a.width a.code) a.v a.u (a.width + 4) c.if-all-u.false
