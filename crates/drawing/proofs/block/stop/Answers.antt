-- `stop` meets its contract: refusal 8, the end, or the line of a refusal.
use Rattle.std.proofs.Common.{Ok}
use mathlib.Core.Path.{◌∙◌, ap}
use Rattle.conversions.proofs.DumpLines.{read_none, read_refused}
use Rattle.drawing.proofs.Taken.{stops_full}
use Rattle.drawing.proofs.block.stop.Goals as goal

pub returns-in-Ok-Some : goal.returns-in-Ok-Some
returns-in-Ok-Some c = search (stops_full, c.in-Ok-Some.is ∙ ap Ok c.in-Ok-Some.field-0-is)

pub returns-in-Ok-None : goal.returns-in-Ok-None
returns-in-Ok-None c = search (read_none, c.in-Ok-None.is ∙ ap Ok c.in-Ok-None.field-0-is)

pub returns-in-Err : goal.returns-in-Err
returns-in-Err c = search read_refused
