-- `put_time` meets its contract: one word, or digit by digit.
use native.Mathlib.Omega.{arith}
use Rattle.dumps.proofs.Clock.{at_most_six, short_put}
use Rattle.dumps.proofs.times.put_time.Goals as goal

pub put_decimal-end-requires : goal.put_decimal-end-requires
put_decimal-end-requires c = omega (arith, at_most_six c.args.t c.requires.1)

pub returns-else-t-ge100000 : goal.returns-else-t-ge100000
returns-else-t-ge100000 c = short_put c.args.t c.args.buf.now _ _ c.requires.1 c.put_decimal-end.ensures.0 c.put_decimal-end.ensures.1
