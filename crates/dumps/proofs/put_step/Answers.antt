-- `put_step` meets its contract: the time and the lines of both parts.
use mathlib.Core.Path.{refl}
use Rattle.dumps.proofs.Steps.{step_put}
use Rattle.dumps.proofs.put_step.Goals as goal

pub returns : goal.returns
returns c = step_put c.args.prev c.args.t c.args.c _ c.args.buf.now _ _ _ _ _ _ c.requires.0 refl c.put_time-first.ensures c.put_inputs-second.ensures c.put_outputs.ensures
