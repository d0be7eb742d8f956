-- `step` meets its contract: 10, then 8, then the rest.
use mathlib.Core.Path.{sym, ◌∙◌}
use native.Mathlib.Omega.{arith}
use Rattle.rules.proofs.WellFormed.{facts_of}
use Rattle.arbitration.proofs.Close.{malformed, sound, full, bad}
use Rattle.arbitration.proofs.step.Goals as goal

pub returns-then-not-well_formed : goal.returns-then-not-well_formed
returns-then-not-well_formed c = search malformed

pub returns-then-s-ge1000000 : goal.returns-then-s-ge1000000
returns-then-s-ge1000000 c = search full

pub take-requires : goal.take-requires
take-requires c = (facts_of _ (search sound), omega arith, sym c.check_inputs.ensures ∙ c.in-Ok.is)

pub returns-in-Err : goal.returns-in-Err
returns-in-Err c = bad _ _ _ _ (facts_of _ (search sound)) (omega arith) c.check_inputs.ensures c.in-Err.is
