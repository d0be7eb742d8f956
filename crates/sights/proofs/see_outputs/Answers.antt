-- `see_outputs` meets its contract.
use Rattle.sights.proofs.Whole.{outputs_passed}
use Rattle.sights.proofs.see_outputs.Goals as goal

pub returns : goal.returns
returns c = search outputs_passed
