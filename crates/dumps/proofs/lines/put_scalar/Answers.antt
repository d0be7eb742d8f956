-- `put_scalar` meets its contract: the line, or none.
use mathlib.Core.Path.{refl}
use native.Mathlib.Omega.{arith}
use native.Mathlib.Numerals.{towards_suc}
use Rattle.dumps.specs.Changed.{variable}
use Rattle.dumps.proofs.Bits.{scalar_line}
use Rattle.dumps.proofs.Puts.{put_none, put_line}
use Rattle.dumps.proofs.lines.put_scalar.Goals as goal

pub returns-then-all-u : goal.returns-then-all-u
returns-then-all-u c = let a = c.args in
    put_line a.buf.now a.at a.all (variable 1 a.code) a.v a.u 3 _ _ _ c.if-all-u.true (scalar_line a.code a.u) refl (omega arith) (simp towards_suc)

pub returns-else-all-u : goal.returns-else-all-u
returns-else-all-u c = let a = c.args in put_none a.buf.now a.at a.all (variable 1 a.code) a.v a.u 3 c.if-all-u.false
