-- What a program writes is a function of the bytes it reads: the same wherever the input is cut into blocks of whole lines. And
-- what a refused block leaves.
use Rattle.std.specs.Prelude.{ℕ, ◌≡◌, List, ◌++◌, length, drop, Ok}
use Rattle.rules.specs.declared.State.{State}
use Rattle.rules.specs.State.{reset_state}
use Rattle.formats.specs.declared.Word.TheVariants.{Stim, Trace}
use Rattle.formats.specs.Fields.{width}
use Rattle.formats.specs.Lines.{stimulus_fields, trace_fields}
use Rattle.formats.specs.Headers.{header, read_header_of}
use Rattle.streams.specs.declared.Tally.{Tally}
use Rattle.streams.specs.Arbiter.{arbiter_turn, arbiter_program}
use Rattle.streams.specs.Judging.{judge_turn, start_tally, judge_program}
use Rattle.streams.specs.Blocks.{joined, in_blocks, AllWhole, flow_answer, arbiter_block_of, arbiter_block_left, judge_block_of, judge_block_left}

-- the arbiter program, block by block: blocks of stimulus lines of 16 bytes, and a last one that may be cut
abbrev pub ArbiterInBlocks : Type 0
ArbiterInBlocks =
    (s : List ℕ) (n next : ℕ) (blocks : List (List ℕ)) (last : List ℕ) → read_header_of Stim s ≡ Ok (n, next)
    → drop next s ≡ joined blocks last → AllWhole (width stimulus_fields) blocks
    → arbiter_program s ≡ header Trace n ++ in_blocks arbiter_turn (reset_state n) blocks last

-- the judging program, block by block: blocks of trace lines of 31 bytes
abbrev pub JudgeInBlocks : Type 0
JudgeInBlocks =
    (s : List ℕ) (n next : ℕ) (blocks : List (List ℕ)) (last : List ℕ) → read_header_of Trace s ≡ Ok (n, next)
    → drop next s ≡ joined blocks last → AllWhole (width trace_fields) blocks
    → judge_program s ≡ in_blocks judge_turn (start_tally n) blocks last

-- "Every refusal returns its number with the state .. as given; no lent byte changes."
pub record RefusedBlocksKept : Type 0 where
  pub arbiter_block : (s : State) (block buffer : List ℕ) → (flow_answer (arbiter_block_of s block (length buffer)).flow ≡ 0 → ⊥)
      → ((arbiter_block_of s block (length buffer)).kept ≡ s) × (arbiter_block_left s block buffer ≡ buffer)
  pub judge_block : (b : Tally) (block buffer : List ℕ) → (flow_answer (judge_block_of b block (length buffer)).flow ≡ 0 → ⊥)
      → ((judge_block_of b block (length buffer)).kept ≡ b) × (judge_block_left b block buffer ≡ buffer)
