-- `small` meets its contract.
use Rattle.octets.proofs.Places.{small_sum}
use Rattle.octets.proofs.small.Goals as goal

pub returns : goal.returns
returns c = small_sum c.args.v
