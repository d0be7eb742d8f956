-- The promises over whole waveform files: what trace2vcd and vcd2trace write for every input whatever, and that each undoes the other.
--
-- An input of vcd2trace has exactly one of three forms, as the inputs of the other programs have: its header is refused; or good steps stand
-- after it and the step after them is refused; or it is a whole dump. Each promise is proved under its name in lower case with underscores: the one
-- form in proofs/DumpForms.antt, the numbers in DumpNumbers, what reading tells of a refusal in DumpsRefused, the others in Waves.
--
--   last_of prev cs == the last of the cycles cs, and prev where there is none
--   Behind cs rest  == the last of the steps of cs, if there is one, ends before the rest
--   DumpBegins s n cs rest == the input s is the dump of good cycles, no more than a run may have, and then the rest
--   HasDump s f     == the input s of vcd2trace has the form f
--   dump_on f       == what trace2vcd writes for an input of that form
--   trace_on f      == what vcd2trace writes for an input of that form
use Rattle.std.specs.Prelude.{ℕ, suc, ◌+◌, ◌≤◌, ◌≡◌, ◌⊎◌, List, [], ◌∷◌, ◌++◌, length, Err}
use Rattle.rules.specs.declared.Refusal.{Refusal}
use Rattle.rules.specs.declared.Cycle.{Cycle}
use Rattle.rules.specs.Refusals.{number_of}
use Rattle.rules.specs.Codes.{most_cycles}
use Rattle.formats.specs.Files.{complete, refused_at, trace_file}
use Rattle.formats.specs.Report.{refused_line}
use Rattle.formats.specs.Promises.{InRange, Each, ValidCycle}
use Rattle.waves.specs.Header.{read_dump_header_of}
use Rattle.waves.specs.Reading.{read_step_of}
use Rattle.waves.specs.Files.{no_cycle, dump, read_dump, lines_in}
use Rattle.waves.specs.Promises.{Ends}
use Rattle.conversions.specs.Dumping.{dump_program}
use Rattle.conversions.specs.Undumping.{undump_program}
use Rattle.streams.specs.Judging.{judge_program}
use Rattle.promises.specs.AnyInput.{Form, no_header, cut_after, whole, traces, Has}

abbrev pub last_of : Cycle → List Cycle → Cycle
last_of prev [] = prev
last_of prev (c ∷ cs) = last_of c cs

-- a step ends where nothing follows it, or a line that begins with `#`; the header ends by itself
abbrev pub Behind : List Cycle → List ℕ → Type 0
Behind [] rest = Unit {0}
Behind (c ∷ cs) rest = Ends rest

pub record DumpBegins (s : List ℕ) (n : ℕ) (cs : List Cycle) (rest : List ℕ) : Type 0 where
  pub masters : InRange n
  pub good : Each (ValidCycle n) cs
  pub room : length cs ≤ most_cycles
  pub bytes : s ≡ dump n cs ++ rest
  pub ends : Behind cs rest

-- after k good steps the time is k; after 1,000,000 of them no step is good
abbrev pub HasDump : List ℕ → Form Cycle → Type 0
HasDump s (no_header r) = read_dump_header_of s ≡ Err r
HasDump s (cut_after n cs r) =
    (rest : List ℕ) × DumpBegins s n cs rest × (read_step_of n (length cs) (last_of no_cycle cs) s (length (dump n cs)) ≡ Err r)
HasDump s (whole n cs) = DumpBegins s n cs []

abbrev pub EveryDumpHasOneForm : Type 0
EveryDumpHasOneForm = (s : List ℕ) → (f : Form Cycle) × HasDump s f × ((g : Form Cycle) → HasDump s g → g ≡ f)

-- A header: 12, 1. A step: 1, 13, 8, 14, 3, 4, 5, 6, 7, of which 1 cannot follow a header that was accepted.
pub record DumpsRefusedByNumber : Type 0 where
  pub of_a_header : (s : List ℕ) (r : Refusal) → HasDump s (no_header r) → (number_of r ≡ 12) ⊎ (number_of r ≡ 1)
  pub of_a_step : (s : List ℕ) (n : ℕ) (cs : List Cycle) (r : Refusal) → HasDump s (cut_after n cs r)
      → ((3 ≤ number_of r) × (number_of r ≤ 8)) ⊎ ((13 ≤ number_of r) × (number_of r ≤ 14))

-- a refusal is the last line, after what was already written
abbrev pub dump_on : Form Cycle → List ℕ
dump_on (no_header r) = refused_line 1 r
dump_on (cut_after n cs r) = dump n cs ++ refused_line (length cs + 2) r
dump_on (whole n cs) = dump n cs

abbrev pub DumpsAnyTrace : Type 0
DumpsAnyTrace = (s : List ℕ) (f : Form Cycle) → Has traces s f → dump_program s ≡ dump_on f

-- the line of a refused step is that of its `#`: the one after all lines of the dump so far
abbrev pub trace_on : Form Cycle → List ℕ
trace_on (no_header r) = refused_line 1 r
trace_on (cut_after n cs r) = trace_file n cs ++ refused_line (suc (lines_in (dump n cs))) r
trace_on (whole n cs) = trace_file n cs

abbrev pub TracesAnyDump : Type 0
TracesAnyDump = (s : List ℕ) (f : Form Cycle) → HasDump s f → undump_program s ≡ trace_on f

-- the dump of a judged trace reads back as its cycles: a trace that is judged to its end is a whole one
abbrev pub DumpReadsBack : Type 0
DumpReadsBack = (s : List ℕ) (n : ℕ) (cs : List Cycle) → Has traces s (whole n cs) → read_dump (dump_program s) ≡ complete n cs

-- a dump that is read and written again has the same bytes: reading comes to the end of whole dumps, and of no others
pub record WholeDumpsAreRead : Type 0 where
  pub read : (s : List ℕ) (n : ℕ) (cs : List Cycle) → HasDump s (whole n cs) → read_dump s ≡ complete n cs
  pub written : (s : List ℕ) (n : ℕ) (cs : List Cycle) → read_dump s ≡ complete n cs → HasDump s (whole n cs) × (dump n cs ≡ s)

-- reading a dump tells the line of a refusal as the program does
pub record RefusedDumpsAreTold : Type 0 where
  pub header : (s : List ℕ) (r : Refusal) → HasDump s (no_header r) → read_dump s ≡ refused_at 1 r
  pub step : (s : List ℕ) (n : ℕ) (cs : List Cycle) (r : Refusal) → HasDump s (cut_after n cs r) → read_dump s ≡ refused_at (suc (lines_in (dump n cs))) r

-- the two programs one after the other give back every trace, and every dump
pub record EachUndoesTheOther : Type 0 where
  pub on_traces : (s : List ℕ) (n : ℕ) (cs : List Cycle) → Has traces s (whole n cs) → undump_program (dump_program s) ≡ s
  pub on_dumps : (s : List ℕ) (n : ℕ) (cs : List Cycle) → HasDump s (whole n cs) → dump_program (undump_program s) ≡ s

-- so the judge says of a trace that went through a dump what it says of the trace
abbrev pub JudgedAlike : Type 0
JudgedAlike = (s : List ℕ) (n : ℕ) (cs : List Cycle) → Has traces s (whole n cs) → judge_program (undump_program (dump_program s)) ≡ judge_program s
