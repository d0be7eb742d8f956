-- `put_breach` meets its contract: the line fits.
use native.Mathlib.Omega.{arith}
use Rattle.reports.proofs.Fits.{breach_fits}
use borrow.Author.Rules.{rules}
use Rattle.reports.proofs.put_breach.Goals as goal

pub returns : goal.returns
returns c = breach_fits _ _ _ _ _ _ (omega arith) (search rules) c.write_breach-w.ensures c.size.ensures
