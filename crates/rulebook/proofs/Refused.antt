-- Each refusal comes out with the page's number, hands the judge back, and charges nothing.
use mathlib.Core.Path.{◌≡◌, refl}
use mathlib.Core.List.{map}
use Rattle.rules.specs.Codes.{burst_of}
use Rattle.rules.specs.Valid.{inputs_too_large, outputs_too_large, inputs_not_built, inputs_absent, cycle_check}
use Rattle.rulebook.specs.Columns.{some_below}
use Rattle.rulebook.specs.State.{start_of, counts_ok, starts_out, well_formed}
use Rattle.rulebook.specs.Step.{refused_of, taken_of, judge_of, flagged}
use Rattle.rulebook.specs.Refused.{heard, wanted, asked}

pub table : map heard asked ≡ map wanted asked
unfolding heard wanted asked burst_of inputs_too_large outputs_too_large inputs_not_built inputs_absent cycle_check some_below start_of counts_ok starts_out well_formed refused_of taken_of judge_of flagged
table = refl
