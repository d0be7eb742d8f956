-- `put_end` meets its contract: the line fits.
use native.Mathlib.Omega.{arith}
use Rattle.reports.proofs.Fits.{end_fits}
use borrow.Author.Rules.{rules}
use Rattle.reports.proofs.put_end.Goals as goal

pub returns : goal.returns
returns c = end_fits _ _ _ _ _ _ (omega arith) (omega arith) (search rules) c.write_end-w.ensures c.size.ensures
