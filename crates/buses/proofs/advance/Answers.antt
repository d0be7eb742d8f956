-- `advance` meets its contract.
use Rattle.buses.proofs.Step.{due, stepped}
use borrow.Author.Rules.{rules}
use Rattle.buses.proofs.advance.Goals as goal

pub invariant_of-now-clause-due : goal.invariant_of-now-clause-due
invariant_of-now-clause-due c = search due

pub returns : goal.returns
returns c = (search stepped, search rules)
