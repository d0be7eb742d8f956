-- `advance` meets its contract, field by field.
use Rattle.rulebook.specs.Charges.{next_judge}
use Rattle.keeping.proofs.advance.Goals as goal

pub returns : goal.returns
unfolding next_judge
returns c = cc
