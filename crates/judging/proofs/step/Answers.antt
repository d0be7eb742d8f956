-- `step` meets its contract.
use Rattle.judging.proofs.Close.{flagged}
use Rattle.judging.proofs.step.Goals as goal

pub returns : goal.returns
returns c = search flagged
