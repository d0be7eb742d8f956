-- `take` meets its contract.
use Rattle.judging.proofs.Close.{taken}
use Rattle.judging.proofs.take.Goals as goal

pub returns : goal.returns
returns c = search taken
