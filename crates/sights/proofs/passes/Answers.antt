-- `passes` meets its contract.
use Rattle.sights.proofs.Whole.{tests_pass}
use Rattle.sights.proofs.passes.Goals as goal

pub returns : goal.returns
returns c = tests_pass _ c.requires _
