-- `a3` meets its contract: the masks as a whole say what each master would.
use Rattle.charging.proofs.Rules.{a3_whole}
use Rattle.charging.proofs.flags.a3.Goals as goal

pub returns : goal.returns
returns c = search a3_whole
