-- The programs write what the page prints.
use mathlib.Core.Path.{◌≡◌, refl}
use mathlib.Core.List.{map}
use Rattle.rules.specs.Codes.{burst_of}
use Rattle.rules.specs.Masks.{high}
use Rattle.rules.specs.Valid.{inputs_too_large, outputs_too_large, inputs_not_built, inputs_absent, inputs_check, cycle_check}
use Rattle.rules.specs.Winner.{next, walk, winner}
use Rattle.rules.specs.State.{phase_ok, well_formed}
use Rattle.rules.specs.Phase.{seen, phase_after, opens_later, decides}
use Rattle.rules.specs.Step.{chosen, granted_after, owner_after, lock_after, moved, shown, accepted, step_of}
use Rattle.rulebook.specs.Columns.{owners_request, handover, some_below}
use Rattle.rulebook.specs.Traces.{opens}
use Rattle.rulebook.specs.Rules.{locked_incr, is_watched}
use Rattle.rulebook.specs.State.{counts_ok, starts_out, well_formed as judge_well_formed}
use Rattle.rulebook.specs.Charges.{opening_watch, opened_after, watch_after, lost_after, list_from, next_judge, charges}
use Rattle.rulebook.specs.Step.{refused_of, taken_of, judge_of, flagged}
use Rattle.formats.specs.Digits.{hex_char, hex_digit, joined, decimal_before}
use Rattle.formats.specs.Lines.{line_check, place, read_stimulus_of, read_trace_of}
use Rattle.formats.specs.Headers.{header, number_in, read_header_of}
use Rattle.formats.specs.Report.{breach_line, end_line, refused_line}
use Rattle.formats.specs.Texts.{bytes}
use Rattle.streams.specs.Streams.{written}
use Rattle.streams.specs.Arbiter.{arbiter_turn, arbiter_program}
use Rattle.streams.specs.Judging.{breach_lines, judge_turn, judge_program}
use Rattle.streams.specs.Examples.{writes, jobs, outputs}

pub table : map writes jobs ≡ map bytes outputs
unfolding writes bytes burst_of high inputs_too_large outputs_too_large inputs_not_built inputs_absent inputs_check cycle_check next walk winner phase_ok well_formed seen phase_after opens_later decides chosen granted_after owner_after lock_after moved shown accepted step_of owners_request handover some_below opens locked_incr is_watched counts_ok starts_out judge_well_formed opening_watch opened_after watch_after lost_after list_from next_judge charges refused_of taken_of judge_of flagged hex_char hex_digit joined decimal_before line_check place read_stimulus_of read_trace_of header number_in read_header_of breach_line end_line refused_line written arbiter_turn arbiter_program breach_lines judge_turn judge_program
table = refl
