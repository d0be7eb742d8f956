-- `read_stimulus` meets its contract.
use Rattle.std.proofs.Common.{◌∙◌}
use Rattle.lines.proofs.Reading.{stimulus_read}
use Rattle.lines.proofs.read_stimulus.Goals as goal

pub returns : goal.returns
returns c = let a = c.args in c.read.ensures ∙ stimulus_read a.n a.s.now a.at
