-- `head` meets its contract: the header as the arbiter's call takes it.
use Rattle.arbiter.proofs.Blocks.{headed}
use Rattle.arbiter.proofs.ArbiterProgram.head.Goals as goal

pub returns-in-Begun : goal.returns-in-Begun
returns-in-Begun c = headed _ _ c.requires _ c.in-Begun.ensures.0

pub returns-in-Refused : goal.returns-in-Refused
returns-in-Refused c = headed _ _ c.requires _ c.in-Refused.ensures.0

pub returns-in-Short : goal.returns-in-Short
returns-in-Short c = headed _ _ c.requires _ c.in-Short.ensures.0
