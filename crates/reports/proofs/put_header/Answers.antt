-- `put_header` meets its contract: the header fits, and n is good.
use native.Mathlib.Omega.{arith}
use Rattle.reports.proofs.Fits.{header_fits}
use borrow.Author.Rules.{rules}
use Rattle.reports.proofs.put_header.Goals as goal

pub returns : goal.returns
returns c = header_fits _ _ _ _ _ (search rules) (omega arith) (search rules) c.write_header-w.ensures c.size.ensures
