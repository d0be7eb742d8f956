-- `first_digit` meets its contract.
use Rattle.std.proofs.Common.{refl, arith}
use Rattle.sights.proofs.Clock.{counting_start}
use Rattle.sights.proofs.time.first_digit.Goals as goal

pub returns-in-35 : goal.returns-in-35
returns-in-35 c = counting_start c.args.s.now (omega arith) _ (omega arith) refl (omega arith) (omega arith)
