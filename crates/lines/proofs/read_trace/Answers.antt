-- `read_trace` meets its contract.
use Rattle.std.proofs.Common.{◌∙◌}
use Rattle.lines.proofs.Reading.{trace_read}
use Rattle.lines.proofs.read_trace.Goals as goal

pub returns : goal.returns
returns c = let a = c.args in c.read.ensures ∙ trace_read a.n a.s.now a.at
