-- `mask_at` meets its contract.
use Rattle.glances.proofs.Columns.{mask_seen}
use Rattle.glances.proofs.table.mask_at.Goals as goal

pub returns : goal.returns
returns c = search mask_seen
