-- The header and the end of the input, as the calls of the two programs take them.
--
--   head_room        == the room that a header and the line of its refusal need
--   arbiter_headed h == what a stimulus header comes to: the trace header and the reset state, or the line of its refusal
--   head_answer h    == the number that the arbiter's call answers which takes a header: 0, or that of its refusal
--   judge_headed h   == what a trace header comes to: the judge at its start, or the line of its refusal
--   arbiter_head_of, arbiter_head_left, judge_head_of, judge_head_left == the answers of the calls that take a header, and the buffer afterwards
--   judge_end_of, judge_end_left == the answer of the call that writes the end line, and the buffer afterwards
use Rattle.std.specs.Prelude.{ℕ, true, cond, List, [], ltb, length, Err, Ok}
use Rattle.rules.specs.declared.Refusal.TheVariants.{State as StateRefusal, Short as ShortRefusal}
use Rattle.rules.specs.Refusals.{number_of}
use Rattle.rules.specs.State.{reset_state}
use Rattle.formats.specs.declared.Word.TheVariants.{Stim, Trace}
use Rattle.formats.specs.Results.{HeaderRead, Written}
use Rattle.formats.specs.Headers.{header, read_header_of}
use Rattle.formats.specs.Lines.{left}
use Rattle.formats.specs.Report.{refused_line, write_of}
use Rattle.streams.specs.declared.Tally.{Tally}
use Rattle.streams.specs.declared.Flow.TheVariants as flow
use Rattle.streams.specs.declared.Progress.{Progress}
use Rattle.streams.specs.Streams.{written, Stretch, on, done}
use Rattle.streams.specs.Judging.{judge_turn, start_tally}
use Rattle.streams.specs.Blocks.{tally_formed, left_by, progress_of}
use Rattle.streaming.specs.declared.ArbiterHead.{ArbiterHead}
use Rattle.streaming.specs.declared.ArbiterHead.TheVariants.{Begun, Refused, Short}
use Rattle.streams.specs.Turns.{over}

abbrev pub head_room : ℕ
head_room = 31

-- the trace header as soon as the stimulus header is accepted
abbrev pub arbiter_headed : HeaderRead → ArbiterHead
arbiter_headed (Ok (n, next)) = Begun (length (header Trace n)) (reset_state n)
arbiter_headed (Err r) = Refused (length (refused_line 1 r))

abbrev pub arbiter_head_bytes : HeaderRead → List ℕ
arbiter_head_bytes (Ok (n, next)) = header Trace n
arbiter_head_bytes (Err r) = refused_line 1 r

-- a header that is refused has its line among the bytes that are written; it is no refusal of the call
abbrev pub head_answer : ArbiterHead → ℕ
head_answer (Begun written s) = 0
head_answer (Refused written) = 0
head_answer Short = number_of ShortRefusal

unfoldable pub arbiter_head_of : List ℕ → ℕ → ArbiterHead
arbiter_head_of s room = cond (ltb room head_room) Short (arbiter_headed (read_header_of Stim s))

unfoldable pub arbiter_head_left : List ℕ → List ℕ → List ℕ
arbiter_head_left s buffer =
    cond (ltb (length buffer) head_room) buffer (over (arbiter_head_bytes (read_header_of Stim s)) buffer)

-- a refusal stands beside a judge of no masters, as in the judge's own start
abbrev pub judge_headed : HeaderRead → Stretch Tally
judge_headed (Ok (n, next)) = on [] (start_tally n)
judge_headed (Err r) = done (refused_line 1 r) (start_tally 0)

unfoldable pub judge_head_of : List ℕ → ℕ → Progress Tally
judge_head_of s room =
    cond (ltb room head_room) (record { written = 0; flow = flow.Short; kept = start_tally 0 }) (progress_of (judge_headed (read_header_of Trace s)))

unfoldable pub judge_head_left : List ℕ → List ℕ → List ℕ
judge_head_left s buffer = left_by head_room true (judge_headed (read_header_of Trace s)) buffer

-- what is written where nothing is left: 10, 9
unfoldable pub judge_end_of : Tally → ℕ → Written
judge_end_of b room = cond (tally_formed b) (write_of (written judge_turn 1 b []) room) (Err StateRefusal)

unfoldable pub judge_end_left : Tally → List ℕ → List ℕ
judge_end_left b buffer = left (judge_end_of b (length buffer)) (written judge_turn 1 b []) buffer
