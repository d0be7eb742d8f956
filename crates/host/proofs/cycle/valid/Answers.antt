-- `valid` meets its contract.
use Rattle.host.proofs.Inputs.{valid_is}
use borrow.Author.Rules.{rules}
use Rattle.host.proofs.cycle.valid.Goals as goal

pub returns : goal.returns
returns c = valid_is _ _ (search rules)
