-- `grant_text` meets its contract: the four digits of one mask, and the last of the other.
use Rattle.prints.proofs.Outputs.{grant_number}
use Rattle.prints.proofs.grant_text.Goals as goal

pub returns : goal.returns
returns c = grant_number c.args.hgrant c.args.hmaster _ _ c.masks_text-grant.ensures.0 c.masks_text-grant.ensures.1
