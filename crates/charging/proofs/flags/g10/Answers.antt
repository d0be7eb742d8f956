-- `g10` meets its contract: the grants as a whole say what each master would.
use Rattle.charging.proofs.Rules.{g10_whole}
use Rattle.charging.proofs.flags.g10.Goals as goal

pub returns : goal.returns
returns c = search g10_whole
