-- `block` meets its contract: a block that has room is taken.
use Rattle.std.proofs.Common.{◌∙◌}
use Rattle.judge.proofs.Blocks.{taken}
use Rattle.judge.proofs.JudgeProgram.block.Goals as goal

pub returns : goal.returns
returns c = c.judge_block.ensures.0 ∙ taken _ _ _ c.requires.formed c.requires.room
