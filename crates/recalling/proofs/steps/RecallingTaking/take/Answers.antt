-- `take` meets its contract: a step that is seen good was read.
use Rattle.conversions.proofs.Positions.{facts_of}
use Rattle.recalling.proofs.steps.RecallingTaking.take.Goals as goal

pub see_step-requires : goal.see_step-requires
see_step-requires c = ((facts_of c.args.p c.requires.formed).masters, c.if-p-lt1000000.true)
