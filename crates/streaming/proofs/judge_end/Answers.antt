-- `judge_end` meets its contract: 10, or as the writer of the end line.
use mathlib.Core.Bool.{not}
use Rattle.std.proofs.Common.{ap}
use Rattle.streaming.proofs.Headed.{end_unformed, end_wrote}
use Rattle.streaming.proofs.judge_end.Goals as goal

pub returns-then-not-tally_formed : goal.returns-then-not-tally_formed
returns-then-not-tally_formed c = end_unformed _ _ c.tally_formed.ensures _ (ap not c.if-not-tally_formed.true)

pub returns : goal.returns
returns c = end_wrote _ _ c.tally_formed.ensures _ _ _ (ap not c.if-not-tally_formed.false) c.write_end.ensures
