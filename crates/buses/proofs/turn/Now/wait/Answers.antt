-- `wait` meets its contract.
use Rattle.buses.proofs.Step.{wait_moves}
use Rattle.buses.proofs.turn.Now.wait.Goals as goal

pub returns : goal.returns
returns c = search wait_moves
