-- `time_is` meets its contract: the number, and no digit after it.
use Rattle.scans.proofs.Times.{time_told}
use Rattle.scans.proofs.time.time_is.Goals as goal

pub returns : goal.returns
returns c = time_told c.args.t _ _ c.args.s.now c.put_line-size.ensures.bytes c.put_line-size.ensures.size.0 _ _ _ c.begins-number.ensures c.byte_at-after.ensures c.is_decimal-more.ensures
