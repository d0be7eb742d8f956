-- `put_mask` meets its contract: four bytes, and the rest as it was.
use mathlib.Core.Path.{refl, ◌∙◌}
use Rattle.words.proofs.Words.{low_four}
use Rattle.docketing.specs.Calls.{mask_stored}
use Rattle.entries.proofs.put_mask.Goals as goal

pub returns : goal.returns
unfolding mask_stored
returns c = rw (c.to_le_bytes.ensures ∙ low_four c.args.m) refl
