-- `tally_formed` meets its contract.
use Rattle.streams.specs.Blocks.{tally_formed}
use Rattle.streaming.proofs.tally_formed.Goals as goal

pub returns : goal.returns
unfolding tally_formed
returns c = cc
