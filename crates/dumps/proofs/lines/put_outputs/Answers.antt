-- `put_outputs` meets its contract: one line after the other.
use Rattle.dumps.proofs.Steps.{outputs_put}
use Rattle.dumps.proofs.lines.put_outputs.Goals as goal

pub returns : goal.returns
returns c = let a = c.args in
    outputs_put a.all a.buf.now _ _ _ _ _ a.at _ _ _ _ _ a.q a.o _ _
    c.put_vector-a.ensures c.put_vector-b.ensures c.put_scalar-c.ensures c.put_scalar-d.ensures c.put_scalar-e.ensures c.put_scalar.ensures
