-- `left_byte` meets its contract: an entry of the table.
use mathlib.Core.Path.{refl}
use mathlib.Core.List.{[], ◌∷◌}
use Rattle.buses.specs.Buses.{phase_from}
use Rattle.hosting.specs.Bytes.{left_byte}
use Rattle.octets.proofs.Tables.{byte_entry}
use Rattle.octets.proofs.left_byte.Goals as goal

pub returns : goal.returns
unfolding phase_from
returns c = byte_entry left_byte (0 ∷ 1 ∷ 2 ∷ 3 ∷ 0 ∷ 0 ∷ []) refl c.args.k c.requires
