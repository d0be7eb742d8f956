-- `place` meets its contract.
use native.Mathlib.Omega.{arith}
use Rattle.octets.proofs.Places.{place_is}
use Rattle.octets.proofs.place.Goals as goal

pub returns : goal.returns
returns c = (omega arith, place_is c.args.v)
