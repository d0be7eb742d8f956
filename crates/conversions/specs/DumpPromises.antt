-- What is promised of the program trace2vcd as it runs: header first, then block by block. Each statement is proved in
-- proofs/DumpPromises.antt by a law of its name, in lower case with underscores.
--
--   dump_run h blocks last == what the calls write for a header that was read and the blocks after it
use Rattle.std.specs.Prelude.{ℕ, ◌+◌, ◌*◌, ◌≤◌, ◌<◌, ◌≡◌, true, List, [], ◌++◌, length, take, drop, Ok}
use Rattle.rules.specs.Codes.{most_cycles, fewest_masters, most_masters}
use Rattle.formats.specs.declared.Word.TheVariants.{Trace}
use Rattle.formats.specs.Results.{HeaderRead}
use Rattle.formats.specs.Fields.{width}
use Rattle.formats.specs.Lines.{trace_fields}
use Rattle.formats.specs.Headers.{read_header_of}
use Rattle.streams.specs.declared.Flow.TheVariants.{GoesOn}
use Rattle.streams.specs.Streams.{written, then}
use Rattle.streams.specs.Heads.{head_size}
use Rattle.streams.specs.Blocks.{joined, in_blocks, AllWhole, flow_answer}
use Rattle.streams.specs.Stays.{kept}
use Rattle.streams.specs.Enough.{has_stopped}
use Rattle.waves.specs.Header.{dump_header}
use Rattle.conversions.specs.declared.Position.{Position}
use Rattle.conversions.specs.Positions.{start_at, position_formed}
use Rattle.conversions.specs.Dumping.{dump_turn, first_line, dump_program}
use Rattle.conversions.specs.Blocks.{dump_stretch, dump_block_of, dump_block_left}
use Rattle.conversions.specs.Heads.{dump_head_room, dump_headed, dump_head_of, dump_head_left}

-- What the program writes is a function of the bytes it reads: the same wherever the input is cut into blocks of trace lines of 31 bytes, and
-- a last one that may be cut.
abbrev pub DumpInBlocks : Type 0
DumpInBlocks =
    (s : List ℕ) (n next : ℕ) (blocks : List (List ℕ)) (last : List ℕ) → read_header_of Trace s ≡ Ok (n, next)
    → drop next s ≡ joined blocks last → AllWhole (width trace_fields) blocks
    → dump_program s ≡ dump_header n ++ in_blocks dump_turn (start_at n first_line) blocks last

abbrev pub dump_run : HeaderRead → List (List ℕ) → List ℕ → List ℕ
dump_run h blocks last = then (λ p. in_blocks dump_turn p blocks last) (dump_headed h)

-- reading as many bytes as a header has, and then the blocks, the program writes what it would write had it read all of its input at once
abbrev pub DumpAsRun : Type 0
DumpAsRun =
    (s : List ℕ) (blocks : List (List ℕ)) (last : List ℕ)
    → drop (head_size Trace s) s ≡ joined blocks last → AllWhole (width trace_fields) blocks
    → dump_program s ≡ dump_run (read_header_of Trace (take (head_size Trace s) s)) blocks last

-- after the last block nothing is written
abbrev pub DumpEnds : Type 0
DumpEnds = (p : Position) → position_formed p ≡ true → written dump_turn 1 p [] ≡ []

-- "State records added later get such a condition in docs/, met by every state a run reaches": no block of a run meets 10
abbrev pub DumpStaysFormed : Type 0
DumpStaysFormed =
    ((n : ℕ) → fewest_masters ≤ n → n ≤ most_masters → position_formed (start_at n first_line) ≡ true)
    × ((p : Position) (block : List ℕ) → position_formed p ≡ true → position_formed (kept (dump_stretch p block)) ≡ true)

-- A block that is used up has counted its lines, no more than 1,000,000 in all, and each of them is a line of the input.
pub record DumpBlocksAreCounted : Type 0 where
  pub cycles : (p : Position) (block : List ℕ) (room : ℕ) → (dump_block_of p block room).flow ≡ GoesOn
      → ((dump_block_of p block room).kept.count * width trace_fields ≡ p.count * width trace_fields + length block)
      × ((dump_block_of p block room).kept.count ≤ most_cycles)
  pub lines : (p : Position) (block : List ℕ) (room : ℕ) → (dump_block_of p block room).flow ≡ GoesOn
      → (dump_block_of p block room).kept.line * width trace_fields ≡ p.line * width trace_fields + length block

-- "At most 1,000,000 cycles a run": a stretch over more lines has stopped, from wherever it began.
abbrev pub DumpMoreLinesStop : Type 0
DumpMoreLinesStop =
    (p : Position) (block : List ℕ) → most_cycles * width trace_fields < length block → has_stopped (dump_stretch p block) ≡ true

-- "Every refusal returns its number with the state .. as given; no lent byte changes."
abbrev pub DumpRefusedBlocksKept : Type 0
DumpRefusedBlocksKept =
    (p : Position) (block buffer : List ℕ) → (flow_answer (dump_block_of p block (length buffer)).flow ≡ 0 → ⊥)
    → ((dump_block_of p block (length buffer)).kept ≡ p) × (dump_block_left p block buffer ≡ buffer)

-- a call that takes a header answers 9 where the buffer is too short for what it may write, and else takes it
pub record DumpHeadsByNumber : Type 0 where
  pub short : (s buffer : List ℕ) → length buffer < dump_head_room
      → (flow_answer (dump_head_of s (length buffer)).flow ≡ 9) × (dump_head_left s buffer ≡ buffer)
  pub taken : (s buffer : List ℕ) → dump_head_room ≤ length buffer → flow_answer (dump_head_of s (length buffer)).flow ≡ 0
