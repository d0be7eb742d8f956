-- `value_in` meets its contract: a scalar's bit comes first, a vector's after `b`.
use Rattle.std.proofs.Common.{arith}
use Rattle.scans.proofs.Walking.{value_one, value_more}
use Rattle.scans.proofs.walk.value_in.Goals as goal

pub returns-then-width-eq1 : goal.returns-then-width-eq1
returns-then-width-eq1 c = λ k. value_one c.args.width k c.args.s.now _ (omega arith) c.if-width-eq1.true c.bits_in.ensures

pub returns-else-width-eq1 : goal.returns-else-width-eq1
returns-else-width-eq1 c = λ k. value_more c.args.width k c.args.s.now _ (omega arith) c.if-width-eq1.false c.bits_in-else-width-eq1.ensures
