-- `decimal_length` meets its contract: the logarithm, where there is one, and one digit more.
use Rattle.fields.proofs.Decimals.{decimal_by_log}
use Rattle.fields.proofs.text.decimal_length.Goals as goal

pub returns : goal.returns
returns c = let e = c.checked_ilog10.ensures in
    rw (c.unwrap_or.ensures) (decimal_by_log c.args.v c.checked_ilog10.result e.none e.power_le e.next_power_gt e.bound)
