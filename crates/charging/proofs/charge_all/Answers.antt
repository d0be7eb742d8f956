-- `charge_all` meets its contract: the number of the flags.
use mathlib.Core.Path.{◌∙◌, ap}
use Rattle.rulebook.specs.Named.{mask_of}
use Rattle.charging.proofs.charge_all.Goals as goal

pub returns : goal.returns
returns c = (c.mask.ensures.0 ∙ ap mask_of c.charged.ensures, c.mask.ensures.1)
