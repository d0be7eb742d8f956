-- The texts and the table of cases, computed.
--
--   as_printed == the header and steps are the texts of the request
--   numbered   == each call is answered with the number that the request gives it
use mathlib.Core.Path.{◌≡◌, refl}
use mathlib.Core.List.{map}
use Rattle.rules.specs.Codes.{burst_of}
use Rattle.rules.specs.Valid.{inputs_check, cycle_check, inputs_too_large, outputs_too_large, inputs_not_built, inputs_absent}
use Rattle.formats.specs.Digits.{decimal_before}
use Rattle.formats.specs.Lines.{line_check}
use Rattle.formats.specs.Texts.{bytes}
use Rattle.waves.specs.Variables.{change, size_of}
use Rattle.waves.specs.Header.{opening, declared, all_declared, closing, dump_header, begins, masters_in, read_dump_header_of, write_dump_header_of}
use Rattle.waves.specs.Steps.{time_line, changes, dump_step, write_step_of}
use Rattle.waves.specs.Reading.{up_to, has_time, time_is, wrong_time, full_time, after_space, code_in, unknown_code, unknown_from, line_size, placed, are_bits, binary, bits_in, value_in, shaped, values_in, cycle_of, step_shaped, step_cycle, step_in, read_step_of}
use Rattle.waves.specs.Files.{steps_of, dump}
use Rattle.waves.specs.Texts.{printed}
use Rattle.waves.specs.Refused.{heard, asked}

pub as_printed : map (λ p. p.line) printed ≡ map (λ p. bytes p.shown) printed
unfolding bytes decimal_before opening declared all_declared closing dump_header change time_line changes dump_step steps_of dump
as_printed = refl

pub numbered : map (λ a. heard a.call) asked ≡ map (λ a. a.number) asked
unfolding heard asked bytes decimal_before opening declared all_declared closing dump_header change size_of time_line changes dump_step begins masters_in read_dump_header_of write_dump_header_of write_step_of up_to has_time time_is wrong_time full_time after_space code_in unknown_code unknown_from line_size placed are_bits binary bits_in value_in shaped values_in cycle_of step_shaped step_cycle step_in read_step_of line_check inputs_check cycle_check inputs_too_large outputs_too_large inputs_not_built inputs_absent burst_of
numbered = refl
