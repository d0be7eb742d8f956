-- `keep_lost` meets its contract: sixteen counts are what their places give.
use borrow.Author.Rules.{rules}
use mathlib.Core.Path.{refl}
use Rattle.keeping.proofs.Lost.{with_kept}
use Rattle.keeping.proofs.counts.keep_lost.Goals as goal

pub returns : goal.returns
returns c = (with_kept _ (search rules), refl)
