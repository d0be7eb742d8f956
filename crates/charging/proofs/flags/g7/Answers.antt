-- `g7` meets its contract: a common bit of HLOCK and HGRANT.
use Rattle.charging.proofs.Rules.{g7_whole}
use Rattle.charging.proofs.flags.g7.Goals as goal

pub returns : goal.returns
returns c = search g7_whole
