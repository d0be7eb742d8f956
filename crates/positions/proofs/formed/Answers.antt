-- `formed` meets its contract.
use Rattle.conversions.specs.Positions.{position_formed}
use Rattle.positions.proofs.formed.Goals as goal

pub returns : goal.returns
unfolding position_formed
returns c = cc
