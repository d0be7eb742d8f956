-- `after_line` meets its contract: the line is laid out, and compared.
use Rattle.scans.proofs.Times.{line_told}
use Rattle.scans.proofs.time.after_line.Goals as goal

pub returns : goal.returns
returns c = line_told c.args.t c.args.s.now _ _ c.put_line-size.ensures.bytes c.strip_prefix.ensures.cases
