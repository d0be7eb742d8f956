-- `losers` meets its contract: the bits of the requests that are no bits of the grants.
use Rattle.keeping.proofs.Masks.{high_without}
use Rattle.keeping.proofs.counts.losers.Goals as goal

pub returns : goal.returns
returns c = record { each = λ i. high_without _ _ i }
