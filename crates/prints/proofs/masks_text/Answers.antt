-- `masks_text` meets its contract.
use Rattle.std.proofs.Common.{◌∙◌}
use Rattle.prints.proofs.Sides.{turned}
use Rattle.prints.proofs.Texts.{texts}
use Rattle.prints.proofs.masks_text.Goals as goal

pub returns : goal.returns
returns c = texts c.args.a c.args.b _ _ _ _ c.digits-d.ensures.0 c.letters.ensures.0 (c.swap_bytes.ensures ∙ turned _) (c.swap_bytes-2.ensures ∙ turned _)
