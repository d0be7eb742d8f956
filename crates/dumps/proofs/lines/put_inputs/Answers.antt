-- `put_inputs` meets its contract: one line after the other.
use Rattle.dumps.proofs.Steps.{inputs_put}
use Rattle.dumps.proofs.lines.put_inputs.Goals as goal

pub returns : goal.returns
returns c = let a = c.args in
    inputs_put a.all a.buf.now _ _ _ _ _ a.at _ _ _ _ _ a.p a.x c.put_vector-a.ensures c.put_vector-b.ensures c.put_scalar-c.ensures c.put_vector-d.ensures c.put_vector.ensures
