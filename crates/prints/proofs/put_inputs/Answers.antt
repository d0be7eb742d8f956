-- `put_inputs` meets its contract: three words, each over the end of the one before.
use Rattle.prints.proofs.Words.{inputs_put}
use Rattle.prints.proofs.put_inputs.Goals as goal

pub returns : goal.returns
returns c = search inputs_put
