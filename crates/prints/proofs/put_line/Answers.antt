-- `put_line` meets its contract: the inputs, and the outputs over their end.
use Rattle.prints.proofs.Words.{line_put}
use Rattle.prints.proofs.put_line.Goals as goal

pub returns : goal.returns
returns c = search line_put
