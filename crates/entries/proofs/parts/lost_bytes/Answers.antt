-- `lost_bytes` meets its contract: a call for each count.
use borrow.Author.Rules.{rules}
use Rattle.entries.proofs.Stored.{lost_is}
use Rattle.entries.proofs.parts.lost_bytes.Goals as goal

pub returns : goal.returns
returns c = lost_is _ _ c.requires c.map.ensures.items.long (λ k h. let call = c.map.ensures.items.at k 0 0 h in search rules)
