-- The program trace2vcd: a trace on standard input, its dump on standard output.
--
--   dump_turn p rest == one trace line: it is read, and its step is written
--   dump_program s   == all that the program writes for the input s
use Rattle.std.specs.Prelude.{ℕ, suc, cond, List, [], ◌++◌, leb, length, drop, Err, None, Ok, Some}
use Rattle.rules.specs.declared.Refusal.TheVariants as refusal
use Rattle.rules.specs.Codes.{most_cycles}
use Rattle.formats.specs.declared.Word.TheVariants.{Trace}
use Rattle.formats.specs.Results.{HeaderRead, TraceRead}
use Rattle.formats.specs.Lines.{read_trace_of}
use Rattle.formats.specs.Headers.{read_header_of}
use Rattle.formats.specs.Report.{refused_line}
use Rattle.streams.specs.Streams.{Turn, goes, stops, written}
use Rattle.waves.specs.Header.{dump_header}
use Rattle.waves.specs.Steps.{dump_step}
use Rattle.conversions.specs.declared.Position.{Position}
use Rattle.conversions.specs.Positions.{start_at, after}

-- the reader's 3 to 7 come before 8, as in the other programs
abbrev pub drawn : TraceRead → Position → Turn Position
drawn (Ok (Some (c, next))) p =
    cond (leb most_cycles p.count)
    (stops (refused_line p.line refusal.Full))
    (goes (dump_step p.before p.count c) (after p c 1) next)
drawn (Ok None) p = stops []
drawn (Err r) p = stops (refused_line p.line r)

unfoldable pub dump_turn : Position → List ℕ → Turn Position
dump_turn p rest = drawn (read_trace_of p.n rest 0) p

-- the line after a trace's header
abbrev pub first_line : ℕ
first_line = 2

-- the dump's header as soon as the trace's header is accepted
abbrev pub dump_after : HeaderRead → List ℕ → List ℕ
dump_after (Ok (n, next)) s = dump_header n ++ written dump_turn (suc (length s)) (start_at n first_line) (drop next s)
dump_after (Err r) s = refused_line 1 r

unfoldable pub dump_program : List ℕ → List ℕ
dump_program s = dump_after (read_header_of Trace s) s
