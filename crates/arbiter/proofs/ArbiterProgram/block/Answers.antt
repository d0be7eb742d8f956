-- `block` meets its contract: a block that has room is taken.
use Rattle.std.proofs.Common.{◌∙◌}
use Rattle.arbiter.proofs.Blocks.{taken}
use Rattle.arbiter.proofs.ArbiterProgram.block.Goals as goal

pub returns : goal.returns
returns c = c.arbiter_block.ensures.0 ∙ taken _ _ _ c.requires.formed c.requires.room
