-- `has_time` meets its contract.
use Rattle.waves.specs.Reading.{has_time}
use Rattle.scans.proofs.time.has_time.Goals as goal

pub returns : goal.returns
unfolding has_time
returns c = cc
