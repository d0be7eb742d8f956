-- `head` meets its contract: the header as the call of drawing takes it.
use Rattle.trace2vcd.proofs.Blocks.{headed}
use Rattle.trace2vcd.proofs.DrawingProgram.head.Goals as goal

pub returns : goal.returns
returns c = rw c.heading.ensures (headed _ _ c.requires _ c.dump_head.ensures.0)
