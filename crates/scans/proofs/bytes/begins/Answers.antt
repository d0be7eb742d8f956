-- `begins` meets its contract.
use Rattle.std.proofs.Common.{sym, ◌∙◌}
use Rattle.scans.proofs.Begins.{begins_first}
use Rattle.scans.proofs.bytes.begins.Goals as goal

pub returns : goal.returns
returns c = c.starts_with.ensures.value ∙ sym (begins_first c.args.s.now c.args.w.now)
