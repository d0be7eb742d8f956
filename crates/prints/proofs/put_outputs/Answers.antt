-- `put_outputs` meets its contract: two words, the second eight bytes further.
use Rattle.prints.proofs.Outputs.{outputs_put}
use Rattle.prints.proofs.put_outputs.Goals as goal

pub returns : goal.returns
returns c = search outputs_put
