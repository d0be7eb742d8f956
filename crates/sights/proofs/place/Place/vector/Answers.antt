-- `vector` meets its contract.
use Rattle.sights.proofs.Passing.{shorter_line}
use Rattle.sights.proofs.place.Place.vector.Goals as goal

pub column-requires : goal.column-requires
column-requires g c = shorter_line g.row.W c.args.code _ _ c.vector.ensures

pub returns : goal.returns
returns g c = c.column.ensures g.row.W c.args.code c.vector.ensures
