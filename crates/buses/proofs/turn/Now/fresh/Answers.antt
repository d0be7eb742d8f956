-- `fresh` meets its contract.
use Rattle.buses.proofs.Bursts.{fresh_runs}
use Rattle.buses.proofs.turn.Now.fresh.Goals as goal

pub returns : goal.returns
returns c = search fresh_runs
