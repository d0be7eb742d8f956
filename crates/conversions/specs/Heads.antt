-- The header, as the calls of the two converting programs take it: 9, or what it comes to.
--
--   undump_head_size s     == the bytes that vcd2trace reads before it tells what header it has
--   dump_headed h, undump_headed h == what a header comes to: the other file's header and the start, or the line of its refusal
--   dump_head_of, dump_head_left, undump_head_of, undump_head_left == the answers of the calls that take a header, and the buffer afterwards
use Rattle.std.specs.Prelude.{ℕ, ◌-◌, ◌+◌, true, cond, List, eqb, get_or, Err, Ok}
use Rattle.formats.specs.declared.Word.TheVariants.{Trace}
use Rattle.formats.specs.Results.{HeaderRead}
use Rattle.formats.specs.Digits.{lf}
use Rattle.formats.specs.Headers.{header, read_header_of}
use Rattle.formats.specs.Report.{refused_line}
use Rattle.streams.specs.Streams.{Stretch, on, done}
use Rattle.streams.specs.Blocks.{progress_in, left_by}
use Rattle.waves.specs.Header.{dump_header, read_dump_header_of}
use Rattle.conversions.specs.declared.Position.{Position}
use Rattle.streams.specs.declared.Progress.{Progress}
use Rattle.conversions.specs.Positions.{start_at}
use Rattle.conversions.specs.Dumping.{first_line}
use Rattle.conversions.specs.Undumping.{first_step}

-- a header with n in one digit, and one byte more where that one does not end with LF
abbrev pub short_header : ℕ
short_header = 397

unfoldable pub undump_head_size : List ℕ → ℕ
undump_head_size s = cond (eqb (get_or s (short_header - 1) 0) lf) short_header (short_header + 1)

-- the room for the longest header of a dump, and for one of a trace; a refusal line has room there too
abbrev pub dump_head_room : ℕ
dump_head_room = 398

abbrev pub undump_head_room : ℕ
undump_head_room = 31

-- a refusal stands beside a start of no masters
abbrev pub dump_headed : HeaderRead → Stretch Position
dump_headed (Ok (n, next)) = on (dump_header n) (start_at n first_line)
dump_headed (Err r) = done (refused_line 1 r) (start_at 0 first_line)

abbrev pub undump_headed : HeaderRead → Stretch Position
undump_headed (Ok (n, next)) = on (header Trace n) (start_at n first_step)
undump_headed (Err r) = done (refused_line 1 r) (start_at 0 first_step)

unfoldable pub dump_head_of : List ℕ → ℕ → Progress Position
dump_head_of s room = progress_in room dump_head_room true (start_at 0 first_line) (dump_headed (read_header_of Trace s))

unfoldable pub dump_head_left : List ℕ → List ℕ → List ℕ
dump_head_left s buffer = left_by dump_head_room true (dump_headed (read_header_of Trace s)) buffer

unfoldable pub undump_head_of : List ℕ → ℕ → Progress Position
undump_head_of s room = progress_in room undump_head_room true (start_at 0 first_step) (undump_headed (read_dump_header_of s))

unfoldable pub undump_head_left : List ℕ → List ℕ → List ℕ
undump_head_left s buffer = left_by undump_head_room true (undump_headed (read_dump_header_of s)) buffer
