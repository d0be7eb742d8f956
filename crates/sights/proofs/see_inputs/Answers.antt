-- `see_inputs` meets its contract.
use Rattle.sights.proofs.Whole.{inputs_passed}
use Rattle.sights.proofs.see_inputs.Goals as goal

pub returns : goal.returns
returns c = search inputs_passed
