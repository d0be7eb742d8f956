-- `refused` meets its contract.
use mathlib.Core.Path.{refl}
use Rattle.rulebook.specs.Named.{mask_of}
use Rattle.rulebook.specs.Step.{refused_of}
use Rattle.judging.proofs.refused.Goals as goal

pub returns : goal.returns
unfolding mask_of refused_of
returns c = refl
