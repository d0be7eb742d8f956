-- Each refusal comes out with the page's number, and hands the state back.
use mathlib.Core.Path.{◌≡◌, refl}
use mathlib.Core.List.{map}
use Rattle.rules.specs.Refusals.{number_of}
use Rattle.rules.specs.Codes.{burst_of}
use Rattle.rules.specs.Masks.{high}
use Rattle.rules.specs.Valid.{inputs_too_large, inputs_not_built, inputs_absent, inputs_check}
use Rattle.rules.specs.Winner.{next, walk, winner}
use Rattle.rules.specs.State.{reset_of, phase_ok, well_formed}
use Rattle.rules.specs.Phase.{seen, phase_after, opens_later, decides}
use Rattle.rules.specs.Step.{chosen, accepted, step_of}
use Rattle.rules.specs.Refused.{heard, wanted, asked, named, numbers}

pub table : map heard asked ≡ map wanted asked
unfolding heard wanted asked burst_of high inputs_too_large inputs_not_built inputs_absent inputs_check next walk winner reset_of phase_ok well_formed seen phase_after opens_later decides chosen accepted step_of
table = refl

pub all_numbers : map (λ r. number_of r) named ≡ numbers
all_numbers = refl
