-- What is promised of the program vcd2trace as it runs: header first, then block by block. Each statement is proved in
-- proofs/UndumpPromises.antt by a law of its name, in lower case with underscores.
--
--   undump_run h        == what the program writes for a header that was read and the blocks after it
use Rattle.std.specs.Prelude.{ℕ, ◌+◌, ◌*◌, ◌≤◌, ◌<◌, ◌≡◌, true, List, [], ◌++◌, length, take, drop, Err, Ok}
use Rattle.rules.specs.Codes.{fewest_masters, most_masters, most_cycles}
use Rattle.formats.specs.declared.Word.TheVariants.{Trace}
use Rattle.formats.specs.Results.{HeaderRead}
use Rattle.formats.specs.Headers.{header}
use Rattle.formats.specs.Report.{refused_line}
use Rattle.streams.specs.declared.Flow.TheVariants.{GoesOn}
use Rattle.streams.specs.Streams.{written}
use Rattle.streams.specs.Blocks.{joined, in_blocks, AllCut, flow_answer}
use Rattle.streams.specs.Stays.{kept}
use Rattle.streams.specs.Enough.{has_stopped}
use Rattle.waves.specs.Header.{read_dump_header_of}
use Rattle.conversions.specs.declared.Position.{Position}
use Rattle.conversions.specs.Positions.{start_at, position_formed}
use Rattle.conversions.specs.Undumping.{first_step, undump_turn, undump_program}
use Rattle.conversions.specs.Blocks.{BetweenSteps, undump_stretch, undump_block_of, undump_block_left}
use Rattle.conversions.specs.Heads.{undump_head_size, undump_head_room, undump_head_of, undump_head_left}

abbrev pub undump_run : HeaderRead → List (List ℕ) → List ℕ → List ℕ
undump_run (Ok (n, next)) blocks last = header Trace n ++ in_blocks undump_turn (start_at n first_step) blocks last
undump_run (Err r) blocks last = refused_line 1 r

-- What the program writes is a function of the bytes it reads: reading as many bytes as a header has, and then blocks that are cut between
-- steps and a last one that may be cut anywhere, it writes what it would write had it read all of its input at once.
abbrev pub UndumpAsRun : Type 0
UndumpAsRun =
    (s : List ℕ) (blocks : List (List ℕ)) (last : List ℕ)
    → drop (undump_head_size s) s ≡ joined blocks last → AllCut BetweenSteps blocks last
    → undump_program s ≡ undump_run (read_dump_header_of (take (undump_head_size s) s)) blocks last

-- "State records added later get such a condition in docs/, met by every state a run reaches": no block of a run meets 10
abbrev pub UndumpStaysFormed : Type 0
UndumpStaysFormed =
    ((n : ℕ) → fewest_masters ≤ n → n ≤ most_masters → position_formed (start_at n first_step) ≡ true)
    × ((p : Position) (block : List ℕ) → position_formed p ≡ true → position_formed (kept (undump_stretch p block)) ≡ true)

-- "Every refusal returns its number with the state .. as given; no lent byte changes."
abbrev pub UndumpRefusedKept : Type 0
UndumpRefusedKept =
    (p : Position) (block buffer : List ℕ) → (flow_answer (undump_block_of p block (length buffer)).flow ≡ 0 → ⊥)
    → ((undump_block_of p block (length buffer)).kept ≡ p) × (undump_block_left p block buffer ≡ buffer)

-- the call that takes a header answers 9 where the buffer is too short for what it may write, and else takes it
pub record UndumpHeadsByNumber : Type 0 where
  pub short : (s buffer : List ℕ) → length buffer < undump_head_room
      → (flow_answer (undump_head_of s (length buffer)).flow ≡ 9) × (undump_head_left s buffer ≡ buffer)
  pub taken : (s buffer : List ℕ) → undump_head_room ≤ length buffer → flow_answer (undump_head_of s (length buffer)).flow ≡ 0

-- A block that is used up has counted its steps, which have 3 to 104 bytes each, and no more than 1,000,000 in all.
pub record UndumpCounted (p : Position) (block : List ℕ) (q : Position) : Type 0 where
  pub steps : ℕ
  pub count : q.count ≡ p.count + steps
  pub room : q.count ≤ most_cycles
  pub at_least : steps * 3 ≤ length block
  pub at_most : length block ≤ steps * 104

abbrev pub UndumpBlocksAreCounted : Type 0
UndumpBlocksAreCounted =
    (p : Position) (block : List ℕ) (room : ℕ) → (undump_block_of p block room).flow ≡ GoesOn
    → UndumpCounted p block (undump_block_of p block room).kept

-- "time 1,000,000": a stretch over more bytes than 1,000,000 steps can have has stopped, from wherever it began
abbrev pub MoreStepsStop : Type 0
MoreStepsStop = (p : Position) (block : List ℕ) → most_cycles * 104 < length block → has_stopped (undump_stretch p block) ≡ true

-- after the last block the program writes nothing
abbrev pub UndumpEnds : Type 0
UndumpEnds = (p : Position) → position_formed p ≡ true → written undump_turn 1 p [] ≡ []
