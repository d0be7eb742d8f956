-- `flag` meets its contract.
use Rattle.sights.proofs.Passing.{shorter_line}
use Rattle.sights.proofs.place.Place.flag.Goals as goal

pub column-requires : goal.column-requires
column-requires c = shorter_line 1 c.args.code _ _ c.flag.ensures

pub returns : goal.returns
returns c = c.column.ensures 1 c.args.code c.flag.ensures
