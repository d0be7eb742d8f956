-- `head` meets its contract: the header as the call of recalling takes it.
use Rattle.vcd2trace.proofs.Blocks.{headed}
use Rattle.vcd2trace.proofs.RecallingProgram.head.Goals as goal

pub returns : goal.returns
returns c = rw c.heading.ensures (headed _ _ c.requires _ c.undump_head.ensures.0)
