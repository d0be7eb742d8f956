-- The program vcd2trace: a dump on standard input, its trace on standard output.
--
--   undump_turn p rest == one step: it is read, and its trace line is written
--   undump_program s   == all that the program writes for the input s
use Rattle.std.specs.Prelude.{ℕ, suc, List, [], ◌++◌, length, take, drop, Err, None, Ok, Some}
use Rattle.formats.specs.declared.Word.TheVariants.{Trace}
use Rattle.formats.specs.Results.{HeaderRead, TraceRead}
use Rattle.formats.specs.Lines.{trace_line}
use Rattle.formats.specs.Headers.{header}
use Rattle.formats.specs.Report.{refused_line}
use Rattle.streams.specs.Streams.{Turn, goes, stops, written}
use Rattle.waves.specs.Header.{read_dump_header_of}
use Rattle.waves.specs.Reading.{read_step_of}
use Rattle.waves.specs.Files.{lines_in}
use Rattle.conversions.specs.declared.Position.{Position}
use Rattle.conversions.specs.Positions.{start_at, after}

-- a refusal is told by the line of the input in which the step begins, its `#`
abbrev pub recalled : TraceRead → Position → List ℕ → Turn Position
recalled (Ok (Some (c, next))) p rest = goes (trace_line c) (after p c (lines_in (take next rest))) next
recalled (Ok None) p rest = stops []
recalled (Err r) p rest = stops (refused_line p.line r)

unfoldable pub undump_turn : Position → List ℕ → Turn Position
undump_turn p rest = recalled (read_step_of p.n p.count p.before rest 0) p rest

-- the line after the sixteen of a dump's header
abbrev pub first_step : ℕ
first_step = 17

abbrev pub undump_after : HeaderRead → List ℕ → List ℕ
undump_after (Ok (n, next)) s = header Trace n ++ written undump_turn (suc (length s)) (start_at n first_step) (drop next s)
undump_after (Err r) s = refused_line 1 r

unfoldable pub undump_program : List ℕ → List ℕ
undump_program s = undump_after (read_dump_header_of s) s
