-- `bus_of` meets its contract.
use Rattle.buses.proofs.Step.{same_state}
use Rattle.buses.proofs.bus_of.Goals as goal

pub returns : goal.returns
returns c = same_state _ _ _ _ c.requires c.from.ensures c.from-2.ensures c.phase_number.ensures
