-- What is promised of the programs as they run: header first, then block by block. Each statement is proved in proofs/Promises.antt
-- by a law of its name, in lower case with underscores.
--
--   arbiter_run h, judge_run h == what a program writes for a header that was read and the blocks after it
use Rattle.std.specs.Prelude.{ℕ, ◌≤◌, ◌<◌, ◌≡◌, true, List, [], ◌++◌, length, take, drop, Err, Ok}
use Rattle.rules.specs.declared.State.{State}
use Rattle.rules.specs.State.{reset_state, well_formed}
use Rattle.formats.specs.declared.Word.TheVariants.{Stim, Trace}
use Rattle.formats.specs.Results.{HeaderRead}
use Rattle.formats.specs.Fields.{width}
use Rattle.formats.specs.Lines.{stimulus_fields, trace_fields}
use Rattle.formats.specs.Headers.{header, read_header_of}
use Rattle.formats.specs.Report.{end_line, refused_line}
use Rattle.streams.specs.declared.Tally.{Tally}
use Rattle.streams.specs.Streams.{written}
use Rattle.streams.specs.Arbiter.{arbiter_turn, arbiter_program}
use Rattle.streams.specs.Judging.{judge_turn, start_tally, judge_program}
use Rattle.streams.specs.Heads.{head_size}
use Rattle.streams.specs.Blocks.{joined, in_blocks, AllWhole, tally_formed, flow_answer}
use Rattle.streaming.specs.Heads.{head_room, head_answer, arbiter_head_of, arbiter_head_left, judge_head_of, judge_head_left}

abbrev pub arbiter_run : HeaderRead → List (List ℕ) → List ℕ → List ℕ
arbiter_run (Ok (n, next)) blocks last = header Trace n ++ in_blocks arbiter_turn (reset_state n) blocks last
arbiter_run (Err r) blocks last = refused_line 1 r

abbrev pub judge_run : HeaderRead → List (List ℕ) → List ℕ → List ℕ
judge_run (Ok (n, next)) blocks last = in_blocks judge_turn (start_tally n) blocks last
judge_run (Err r) blocks last = refused_line 1 r

-- What a program writes is a function of the bytes it reads: reading as many bytes as a header has, and then blocks of whole lines and
-- a last one that may be cut, a program writes what it would write had it read all of its input at once.
abbrev pub ArbiterAsRun : Type 0
ArbiterAsRun =
    (s : List ℕ) (blocks : List (List ℕ)) (last : List ℕ)
    → drop (head_size Stim s) s ≡ joined blocks last → AllWhole (width stimulus_fields) blocks
    → arbiter_program s ≡ arbiter_run (read_header_of Stim (take (head_size Stim s) s)) blocks last

abbrev pub JudgeAsRun : Type 0
JudgeAsRun =
    (s : List ℕ) (blocks : List (List ℕ)) (last : List ℕ)
    → drop (head_size Trace s) s ≡ joined blocks last → AllWhole (width trace_fields) blocks
    → judge_program s ≡ judge_run (read_header_of Trace (take (head_size Trace s) s)) blocks last

-- "Every refusal returns its number ..; no lent byte changes.": a call that takes a header answers 9 where the buffer is too short for what
-- it may write, and else takes it
pub record HeadsByNumber : Type 0 where
  pub arbiter_short : (s buffer : List ℕ) → length buffer < head_room
      → (head_answer (arbiter_head_of s (length buffer)) ≡ 9) × (arbiter_head_left s buffer ≡ buffer)
  pub arbiter_taken : (s buffer : List ℕ) → head_room ≤ length buffer → head_answer (arbiter_head_of s (length buffer)) ≡ 0
  pub judge_short : (s buffer : List ℕ) → length buffer < head_room
      → (flow_answer (judge_head_of s (length buffer)).flow ≡ 9) × (judge_head_left s buffer ≡ buffer)
  pub judge_taken : (s buffer : List ℕ) → head_room ≤ length buffer → flow_answer (judge_head_of s (length buffer)).flow ≡ 0

-- "then `end`, tab, cycles, tab, breaches": after the last block the arbiter program writes nothing, and the judging program its end line
abbrev pub ArbiterEnds : Type 0
ArbiterEnds = (s : State) → well_formed s ≡ true → written arbiter_turn 1 s [] ≡ []

abbrev pub JudgeEnds : Type 0
JudgeEnds = (b : Tally) → tally_formed b ≡ true → written judge_turn 1 b [] ≡ end_line b.judge.count b.breaches
