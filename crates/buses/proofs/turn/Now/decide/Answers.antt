-- `decide` meets its contract.
use Rattle.buses.proofs.Step.{decide_moves}
use Rattle.buses.proofs.turn.Now.decide.Goals as goal

pub returns : goal.returns
returns c = search decide_moves
