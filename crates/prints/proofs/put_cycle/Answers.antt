-- `put_cycle` meets its contract: the inputs, and the outputs over their end.
use Rattle.prints.proofs.Words.{line_put}
use Rattle.prints.proofs.put_cycle.Goals as goal

pub returns : goal.returns
returns c = search line_put
