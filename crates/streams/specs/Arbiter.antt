-- The arbiter program: stimulus on standard input, trace on standard output.
--
--   arbiter_turn s rest == one stimulus line: it is read, the arbiter takes it, and the trace line is written
--   arbiter_program s   == all that the program writes for the input s
use Rattle.std.specs.Prelude.{ℕ, suc, ◌+◌, List, [], ◌++◌, length, drop, Err, None, Ok, Some}
use Rattle.rules.specs.declared.State.{State}
use Rattle.rules.specs.declared.Inputs.{Inputs}
use Rattle.rules.specs.Results.{Answer}
use Rattle.rules.specs.State.{reset_state}
use Rattle.rules.specs.Step.{step_of}
use Rattle.formats.specs.declared.Word.TheVariants.{Stim, Trace}
use Rattle.formats.specs.Results.{HeaderRead, StimulusRead}
use Rattle.formats.specs.Lines.{read_stimulus_of, trace_line}
use Rattle.formats.specs.Headers.{header, read_header_of}
use Rattle.formats.specs.Report.{refused_line}
use Rattle.streams.specs.Streams.{Turn, goes, stops, written}

-- "On a refusal the programs write `refused`, tab, line number (header is 1), ..": cycle t stands in line t + 2
abbrev pub stepped : Answer → Inputs → State → ℕ → Turn State
stepped (Ok (t, o)) x s next = goes (trace_line (record { inputs = x; outputs = o })) t next
stepped (Err (r, t)) x s next = stops (refused_line (s.count + 2) r)

-- "A program reads a line before it steps."
abbrev pub stimulated : StimulusRead → State → Turn State
stimulated (Ok (Some (x, next))) s = stepped (step_of s x) x s next
stimulated (Ok None) s = stops []
stimulated (Err r) s = stops (refused_line (s.count + 2) r)

unfoldable pub arbiter_turn : State → List ℕ → Turn State
arbiter_turn s rest = stimulated (read_stimulus_of s.n rest 0) s

-- the trace header as soon as the stimulus header is accepted
abbrev pub arbiter_after : HeaderRead → List ℕ → List ℕ
arbiter_after (Ok (n, next)) s = header Trace n ++ written arbiter_turn (suc (length s)) (reset_state n) (drop next s)
arbiter_after (Err r) s = refused_line 1 r

unfoldable pub arbiter_program : List ℕ → List ℕ
arbiter_program s = arbiter_after (read_header_of Stim s) s
