-- `six_digits` meets its contract.
use Rattle.dumps.proofs.Clock.{long_line}
use Rattle.dumps.proofs.times.six_digits.Goals as goal

pub returns : goal.returns
returns c = long_line c.args.t c.requires.0 c.requires.1 _ c.digits.ensures
