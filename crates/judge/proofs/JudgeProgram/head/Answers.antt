-- `head` meets its contract: the header as the judge's call takes it.
use Rattle.judge.proofs.Blocks.{headed}
use Rattle.judge.proofs.JudgeProgram.head.Goals as goal

pub returns : goal.returns
returns c = rw c.heading.ensures (headed _ _ c.requires _ c.judge_head.ensures.0)
