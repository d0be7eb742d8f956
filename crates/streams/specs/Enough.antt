-- How far a program may go. After 1,000,000 good lines the next line, whatever it is, stops the program: so a loop over reads needs no bound of its
-- own. proofs/Enough.antt has the proof of each promise, under the same name in lower case with underscores.
--
--   has_stopped t         == the stretch t has stopped
use Rattle.std.specs.Prelude.{ℕ, ◌+◌, ◌*◌, ◌≤◌, ◌<◌, ◌≡◌, Bool, true, false, List, length}
use Rattle.rules.specs.declared.State.{State}
use Rattle.rules.specs.Codes.{most_cycles}
use Rattle.formats.specs.Fields.{width}
use Rattle.formats.specs.Lines.{stimulus_fields, trace_fields}
use Rattle.streams.specs.declared.Flow.TheVariants.{GoesOn}
use Rattle.streams.specs.declared.Tally.{Tally}
use Rattle.streams.specs.Streams.{Stretch, on, done}
use Rattle.streams.specs.Blocks.{arbiter_stretch, arbiter_block_of, judge_stretch, judge_block_of}

abbrev pub has_stopped : {S : Type 0} → Stretch S → Bool
has_stopped (on bytes s) = false
has_stopped (done bytes s) = true

-- A block that is used up has counted its lines, and no more than 1,000,000 in all.
pub record BlocksAreCounted : Type 0 where
  pub arbiter_block : (s : State) (block : List ℕ) (room : ℕ) → (arbiter_block_of s block room).flow ≡ GoesOn
      → ((arbiter_block_of s block room).kept.count * width stimulus_fields ≡ s.count * width stimulus_fields + length block)
      × ((arbiter_block_of s block room).kept.count ≤ most_cycles)
  pub judge_block : (b : Tally) (block : List ℕ) (room : ℕ) → (judge_block_of b block room).flow ≡ GoesOn
      → ((judge_block_of b block room).kept.judge.count * width trace_fields ≡ b.judge.count * width trace_fields + length block)
      × ((judge_block_of b block room).kept.judge.count ≤ most_cycles)

-- "At most 1,000,000 cycles a run": a stretch over more lines has stopped, from whatever state it began.
pub record MoreLinesStop : Type 0 where
  pub arbiter_lines : (s : State) (block : List ℕ) → most_cycles * width stimulus_fields < length block → has_stopped (arbiter_stretch s block) ≡ true
  pub judge_lines : (b : Tally) (block : List ℕ) → most_cycles * width trace_fields < length block → has_stopped (judge_stretch b block) ≡ true
