-- `whole_lines` meets its contract: the rest is less than a line.
use Rattle.console.proofs.Onwards.{lines_cut}
use Rattle.console.proofs.program.whole_lines.Goals as goal

pub returns : goal.returns
returns c = lines_cut _ _ c.requires
