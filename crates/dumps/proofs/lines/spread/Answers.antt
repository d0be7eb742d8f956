-- `spread` meets its contract: one computed row for each of the 256 bytes.
use Rattle.dumps.proofs.Bits.{spread_bits}
use Rattle.dumps.proofs.lines.spread.Goals as goal

pub returns : goal.returns
returns c = spread_bits c.args.b c.requires
