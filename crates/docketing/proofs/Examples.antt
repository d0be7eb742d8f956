-- The tables of specs/Examples.antt.
use mathlib.Core.Path.{◌≡◌, refl}
use mathlib.Core.List.{map}
use Rattle.rules.specs.Codes.{burst_of}
use Rattle.rules.specs.Masks.{high}
use Rattle.rules.specs.Valid.{inputs_too_large, outputs_too_large, inputs_not_built, inputs_absent, cycle_check}
use Rattle.rulebook.specs.Columns.{owners_request, handover, some_below}
use Rattle.rulebook.specs.Traces.{opens}
use Rattle.rulebook.specs.Rules.{locked_incr, is_watched}
use Rattle.rulebook.specs.State.{start_of, counts_ok, starts_out, well_formed}
use Rattle.rulebook.specs.Charges.{opening_watch, opened_after, watch_after, lost_after, list_from, next_judge, charges}
use Rattle.rulebook.specs.Named.{mask_of}
use Rattle.rulebook.specs.Step.{refused_of, taken_of, judge_of}
use Rattle.docketing.specs.Bytes.{head_of, input_bytes, output_bytes, cycle_bytes, judge_bytes, watch_of, is_judge, cycle_in, judge_in, bytes_judge}
use Rattle.docketing.specs.Calls.{of_docket, judge_step, judge_stored, mask_stored, judge_start}
use Rattle.docketing.specs.Examples.{judges, written, heard, wanted, asked}

pub bytes_table : map judge_bytes judges ≡ written
unfolding judge_bytes head_of cycle_bytes input_bytes output_bytes
bytes_table = refl

pub calls_table : map heard asked ≡ map wanted asked
unfolding heard wanted asked high burst_of inputs_too_large outputs_too_large inputs_not_built inputs_absent cycle_check owners_request handover some_below opens locked_incr is_watched start_of counts_ok starts_out well_formed opening_watch opened_after watch_after lost_after list_from next_judge charges mask_of refused_of taken_of judge_of head_of input_bytes output_bytes cycle_bytes judge_bytes watch_of is_judge cycle_in judge_in bytes_judge of_docket judge_step judge_stored mask_stored judge_start
calls_table = refl
