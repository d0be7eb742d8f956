-- `begins_at` meets its contract.
use Rattle.std.proofs.Common.{sym, arith}
use Rattle.scans.proofs.Begins.{nothing_there}
use Rattle.scans.proofs.bytes.begins_at.Goals as goal

pub returns-in-None : goal.returns-in-None
returns-in-None c = sym (nothing_there c.args.s.now c.args.w.now c.args.p (omega (arith, c.in-None.ensures.lookup)) c.requires)
