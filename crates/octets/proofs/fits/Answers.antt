-- `fits` meets its contract: an entry of the table.
use mathlib.Core.Path.{refl}
use Rattle.rules.specs.State.{phase_ok}
use Rattle.hosting.specs.Bytes.{phase_of}
use Rattle.octets.specs.Octets.{fitting}
use Rattle.octets.proofs.Tables.{fits_entry}
use Rattle.octets.proofs.fits.Goals as goal

pub returns : goal.returns
unfolding fitting phase_of phase_ok
returns c = fits_entry _ refl c.args.i c.requires
