-- Stimulus lines and trace lines: what reading at a position answers, and what writing leaves in a lent buffer.
-- "Reading a line: 1, 3, 4, 5, 6, 7. Writing: 1, 4, 5, 6, 7, 9." Each test is of the whole line.
--
--   stimulus_fields, trace_fields   == the fields of the two lines, of 16 and 31 bytes
--   place fs s p                    == what stands at the position p: no more lines, a whole line of the fields fs, or neither
--   line_check n c                  == the first of 4, 5, 6, 7 that applies to a line
--   stimulus_line x, trace_line c   == the text of a line
--   fitted c size room              == the answer of writing, after its tests; left w bytes buffer == the buffer after that answer
--   read_stimulus_of, read_trace_of == the answer of reading a line at a position
--   write_stimulus_of, write_trace_of == the answer of writing one into a buffer of some length
--   stimulus_written, trace_written   == the buffer afterwards: the line and the rest untouched, or all unchanged
use Rattle.std.specs.Prelude.{ℕ, ◌+◌, ◌-◌, cond, List, ◌++◌, eqb, ltb, length, drop, Err, None, Ok, Some}
use Rattle.rules.specs.declared.Refusal.TheVariants as refusal
use Rattle.rules.specs.Results.{Check}
use Rattle.rules.specs.declared.Inputs.{Inputs}
use Rattle.rules.specs.declared.Outputs.{Outputs}
use Rattle.rules.specs.declared.Cycle.{Cycle}
use Rattle.rules.specs.State.{masters_ok}
use Rattle.rules.specs.Valid.{inputs_check, cycle_check}
use Rattle.formats.specs.Results.{StimulusRead, TraceRead, Written}
use Rattle.formats.specs.Digits.{number_at}
use Rattle.formats.specs.Columns.{input_columns, cycle_columns, input_values, cycle_values}
use Rattle.formats.specs.Fields.{Field, fields, width, write, parted}

abbrev pub stimulus_fields : List Field
stimulus_fields = fields input_columns

abbrev pub trace_fields : List Field
trace_fields = fields cycle_columns

-- the columns that stand at p
abbrev pub inputs_at : List ℕ → ℕ → Inputs
inputs_at s p =
    record {
      hbusreq = number_at 4 s p;
      hlock = number_at 4 s (p + 5);
      hready = number_at 1 s (p + 10);
      htrans = number_at 1 s (p + 12);
      hburst = number_at 1 s (p + 14);
    }

abbrev pub outputs_at : List ℕ → ℕ → Outputs
outputs_at s p =
    record {
      hgrant = number_at 4 s (p + 16);
      hmaster = number_at 1 s (p + 21);
      hmastlock = number_at 1 s (p + 23);
      decide = number_at 1 s (p + 25);
      granted = number_at 1 s (p + 27);
      busreq = number_at 1 s (p + 29);
    }

abbrev pub cycle_at : List ℕ → ℕ → Cycle
cycle_at s p = record { inputs = inputs_at s p; outputs = outputs_at s p }

-- 4 is given for a character that is no hex digit: in every column but HMASTER the number that stands for it is too large already
unfoldable pub line_check : ℕ → Cycle → Check
line_check n c = cond (ltb 15 c.outputs.hmaster) (Err refusal.Value) (cycle_check n c)

-- what there is at a position, before its characters are looked at
pub data Place : Type 0 where
  beyond : Place
  at_end : Place
  cut : Place
  whole : Place

-- "the position is beyond the input, a line is cut, or a tab or LF is not in its place"
unfoldable pub place : List Field → List ℕ → ℕ → Place
place fs s p =
    cond (ltb (length s) p) beyond
    (cond (eqb p (length s)) at_end
    (cond (ltb (length s - p) (width fs)) cut (cond (parted fs s p) whole cut)))

abbrev pub stimulus_checked : Check → List ℕ → ℕ → StimulusRead
stimulus_checked (Ok _) s p = Ok (Some (inputs_at s p, p + width stimulus_fields))
stimulus_checked (Err r) s p = Err r

abbrev pub stimulus_in : Place → ℕ → List ℕ → ℕ → StimulusRead
stimulus_in beyond n s p = Err refusal.Shape
stimulus_in at_end n s p = Ok None
stimulus_in cut n s p = Err refusal.Shape
stimulus_in whole n s p = stimulus_checked (inputs_check n (inputs_at s p)) s p

unfoldable pub read_stimulus_of : ℕ → List ℕ → ℕ → StimulusRead
read_stimulus_of n s p =
    cond (masters_ok n) (stimulus_in (place stimulus_fields s p) n s p) (Err refusal.Masters)

abbrev pub trace_checked : Check → List ℕ → ℕ → TraceRead
trace_checked (Ok _) s p = Ok (Some (cycle_at s p, p + width trace_fields))
trace_checked (Err r) s p = Err r

abbrev pub trace_in : Place → ℕ → List ℕ → ℕ → TraceRead
trace_in beyond n s p = Err refusal.Shape
trace_in at_end n s p = Ok None
trace_in cut n s p = Err refusal.Shape
trace_in whole n s p = trace_checked (line_check n (cycle_at s p)) s p

unfoldable pub read_trace_of : ℕ → List ℕ → ℕ → TraceRead
read_trace_of n s p =
    cond (masters_ok n) (trace_in (place trace_fields s p) n s p) (Err refusal.Masters)

-- the bytes of the two lines
abbrev pub stimulus_line : Inputs → List ℕ
stimulus_line x = write stimulus_fields (input_values x)

abbrev pub trace_line : Cycle → List ℕ
trace_line c = write trace_fields (cycle_values c)

-- the answer of writing k bytes that passed the tests so far into a buffer of length room
abbrev pub fitted : Check → ℕ → ℕ → Written
fitted (Ok _) k room = cond (ltb room k) (Err refusal.Short) (Ok k)
fitted (Err r) k room = Err r

-- the check of a writer: 1 before 4 to 7
abbrev pub for_masters : ℕ → Check → Check
for_masters n k = cond (masters_ok n) k (Err refusal.Masters)

-- what a writer leaves in the buffer: its bytes from the start on, and the rest as it was; on a refusal all as it was
abbrev pub left : Written → List ℕ → List ℕ → List ℕ
left (Ok k) bytes buffer = bytes ++ drop k buffer
left (Err r) bytes buffer = buffer

unfoldable pub write_stimulus_of : ℕ → Inputs → ℕ → Written
write_stimulus_of n x room = fitted (for_masters n (inputs_check n x)) (width stimulus_fields) room

unfoldable pub stimulus_written : ℕ → Inputs → List ℕ → List ℕ
stimulus_written n x buffer = left (write_stimulus_of n x (length buffer)) (stimulus_line x) buffer

unfoldable pub write_trace_of : ℕ → Cycle → ℕ → Written
write_trace_of n c room = fitted (for_masters n (cycle_check n c)) (width trace_fields) room

unfoldable pub trace_written : ℕ → Cycle → List ℕ → List ℕ
trace_written n c buffer = left (write_trace_of n c (length buffer)) (trace_line c) buffer
