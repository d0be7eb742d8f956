-- `begin` meets its contract: a good n is not refused.
use Rattle.streaming.proofs.Headed.{reset_ready, reset_never}
use Rattle.streaming.proofs.begin.Goals as goal

pub returns-in-Ok : goal.returns-in-Ok
returns-in-Ok c = reset_ready _ c.requires.0 _ c.reset.ensures _ _ _ _ c.in-Ok.is c.put_header.ensures

pub returns-in-Err : goal.returns-in-Err
returns-in-Err c = reset_never _ c.requires.0 _ c.reset.ensures _ c.in-Err.is
