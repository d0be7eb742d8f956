-- The number that each reader and writer answers: 0, or that of its refusal.
--
--   header_answer a  == of reading a header
--   stimulus_answer a, trace_answer a == of reading a line
--   stimulus_ends a, trace_ends a == whether that reading says that there are no more lines
--   written_answer a == of writing into a lent buffer
use Rattle.std.specs.Prelude.{ℕ, Bool, true, false, Err, None, Ok, Some}
use Rattle.rules.specs.Refusals.{number_of}
use Rattle.formats.specs.Results.{HeaderRead, StimulusRead, TraceRead, Written}

abbrev pub header_answer : HeaderRead → ℕ
header_answer (Ok (n, next)) = 0
header_answer (Err r) = number_of r

-- Of "no more lines" the page says "that is no refusal" and gives it no number of its own: it has 0 as a line has, and is told from
-- one by stimulus_ends and trace_ends.
abbrev pub stimulus_answer : StimulusRead → ℕ
stimulus_answer (Ok (Some (x, next))) = 0
stimulus_answer (Ok None) = 0
stimulus_answer (Err r) = number_of r

abbrev pub stimulus_ends : StimulusRead → Bool
stimulus_ends (Ok (Some (x, next))) = false
stimulus_ends (Ok None) = true
stimulus_ends (Err r) = false

abbrev pub trace_answer : TraceRead → ℕ
trace_answer (Ok (Some (c, next))) = 0
trace_answer (Ok None) = 0
trace_answer (Err r) = number_of r

abbrev pub trace_ends : TraceRead → Bool
trace_ends (Ok (Some (c, next))) = false
trace_ends (Ok None) = true
trace_ends (Err r) = false

abbrev pub written_answer : Written → ℕ
written_answer (Ok k) = 0
written_answer (Err r) = number_of r
