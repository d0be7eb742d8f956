-- `put_trace` meets its contract: sixteen bytes copied, and the outputs from the last of them on.
use Rattle.std.proofs.Common.{arith}
use Rattle.glances.proofs.Puts.{trace_put}
use Rattle.glances.proofs.put.put_trace.Goals as goal

pub returns : goal.returns
returns c = trace_put c.args.s.now c.args.out.now _ _ _ c.args.c _ _ (record { below = λ i. omega (arith, c.type_inv.s i) })
    c.requires.0 c.requires.1 c.requires.2 c.eight-head.ensures c.eight-tail.ensures c.put_eight.ensures c.put_eight-2.ensures c.put_outputs.ensures
