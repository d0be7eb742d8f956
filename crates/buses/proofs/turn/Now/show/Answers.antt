-- `show` meets its contract.
use Rattle.buses.proofs.Step.{shows}
use Rattle.buses.proofs.turn.Now.show.Goals as goal

pub returns : goal.returns
returns c = search shows
