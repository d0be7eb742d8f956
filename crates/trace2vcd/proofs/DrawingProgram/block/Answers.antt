-- `block` meets its contract: a block that has room is taken.
use Rattle.std.proofs.Common.{◌∙◌}
use Rattle.trace2vcd.proofs.Blocks.{taken}
use Rattle.trace2vcd.proofs.DrawingProgram.block.Goals as goal

pub returns : goal.returns
returns c = c.dump_block.ensures.0 ∙ taken _ _ _ c.requires.formed c.requires.room
