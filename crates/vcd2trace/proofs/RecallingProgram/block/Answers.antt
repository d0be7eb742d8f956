-- `block` meets its contract: a block that has room is taken.
use Rattle.std.proofs.Common.{◌∙◌}
use Rattle.vcd2trace.proofs.Blocks.{taken}
use Rattle.vcd2trace.proofs.RecallingProgram.block.Goals as goal

pub returns : goal.returns
returns c = c.undump_block.ensures.0 ∙ taken _ _ _ c.requires.formed c.requires.room
