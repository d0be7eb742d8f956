-- The table of refusals of the readers and writers: one statement.
use mathlib.Core.Path.{◌≡◌, refl}
use mathlib.Core.List.{map}
use Rattle.rules.specs.Codes.{burst_of}
use Rattle.rules.specs.Valid.{inputs_too_large, outputs_too_large, inputs_not_built, inputs_absent, inputs_check, cycle_check}
use Rattle.formats.specs.Digits.{joined, hex_digit, decimal_before}
use Rattle.formats.specs.Lines.{line_check, place, read_stimulus_of, read_trace_of, write_stimulus_of, write_trace_of}
use Rattle.formats.specs.Headers.{header, write_header_of}
use Rattle.formats.specs.Texts.{bytes}
use Rattle.formats.specs.Refused.{Asked, heard, asked}

pub table : map (λ (a : Asked). heard a.call) asked ≡ map (λ (a : Asked). a.number) asked
unfolding heard asked bytes read_stimulus_of read_trace_of write_stimulus_of write_trace_of write_header_of header decimal_before place line_check inputs_check cycle_check inputs_too_large outputs_too_large inputs_not_built inputs_absent burst_of joined hex_digit
table = refl
