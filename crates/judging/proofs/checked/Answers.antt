-- `checked` meets its contract: both ends of the tests.
use mathlib.Core.Path.{sym, ◌∙◌}
use Rattle.charging.proofs.Ready.{ready_of}
use Rattle.judging.proofs.checked.Goals as goal

pub take-requires : goal.take-requires
take-requires c = ready_of _ _ c.requires.0 c.requires.1 (sym c.check_cycle.ensures ∙ c.in-Ok.is)
