-- `digit_at` meets its contract.
use Rattle.fields.proofs.Digits.{number_one}
use Rattle.fields.proofs.digit_at.Goals as goal

pub returns : goal.returns
returns c = cc (number_one c.args.s.now c.args.p)
