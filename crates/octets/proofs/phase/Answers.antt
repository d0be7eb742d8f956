-- `phase` meets its contract: an entry of the table.
use mathlib.Core.Path.{refl}
use Rattle.hosting.specs.Bytes.{phase_of}
use Rattle.octets.proofs.Tables.{phase_entry}
use Rattle.octets.proofs.phase.Goals as goal

pub returns : goal.returns
unfolding phase_of
returns c = phase_entry _ refl refl c.args.i c.requires
