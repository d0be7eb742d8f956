-- `well_formed` meets its contract.
use Rattle.rulebook.specs.State.{counts_ok, well_formed}
use Rattle.judging.proofs.well_formed.Goals as goal

pub returns : goal.returns
unfolding well_formed counts_ok
returns c = cc
