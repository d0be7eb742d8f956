-- `put_refused` meets its contract: the line fits.
use native.Mathlib.Omega.{arith}
use Rattle.reports.proofs.Fits.{refused_fits}
use borrow.Author.Rules.{rules}
use Rattle.reports.proofs.put_refused.Goals as goal

pub returns : goal.returns
returns c = refused_fits _ _ _ _ _ _ (omega arith) (search rules) c.write_refused-w.ensures c.size.ensures
