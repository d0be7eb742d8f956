-- `put_line` meets its contract.
use Rattle.std.proofs.Common.{arith}
use Rattle.fields.proofs.Decimals.{longest}
use Rattle.scans.proofs.Times.{time_size, laid, first_set}
use Rattle.scans.proofs.time.put_line.Goals as goal

pub put_decimal-requires : goal.put_decimal-requires
put_decimal-requires c = omega (arith, longest c.args.t)

pub returns-clause-size : goal.returns-clause-size
returns-clause-size c = time_size c.args.t _ c.put_decimal.ensures.0

pub returns-clause-bytes : goal.returns-clause-bytes
returns-clause-bytes c = laid c.args.t _ _ _ (first_set c.args.line.now 35 (omega arith)) (omega arith) c.put_decimal.ensures.0 c.put_decimal.ensures.1
