-- `phase_byte` meets its contract: an entry of the table.
use mathlib.Core.Path.{refl}
use mathlib.Core.List.{[], ◌∷◌}
use Rattle.buses.specs.Buses.{phase_from}
use Rattle.hosting.specs.Bytes.{phase_byte}
use Rattle.octets.proofs.Tables.{byte_entry}
use Rattle.octets.proofs.phase_byte.Goals as goal

pub returns : goal.returns
unfolding phase_from
returns c = byte_entry phase_byte (3 ∷ 1 ∷ 1 ∷ 1 ∷ 2 ∷ 0 ∷ []) refl c.args.k c.requires
