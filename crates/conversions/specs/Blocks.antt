-- The calls that take one block each: 9, then 10; and where the blocks of a dump are cut.
--
--   StepEnds a b     == a step ends between a and b, whatever comes after b
--   BetweenSteps a b == a block may be cut between a and b
--   dump_block_of, dump_block_left, undump_block_of, undump_block_left == the answers of the calls that take one block, and the buffer afterwards
use Rattle.std.specs.Prelude.{ℕ, ◌≡◌, List, [], ◌∷◌, ◌++◌, length, get_or}
use Rattle.formats.specs.Digits.{lf}
use Rattle.streams.specs.Streams.{Stretch, stretch}
use Rattle.streams.specs.Blocks.{progress_in, room_for, left_by}
use Rattle.waves.specs.Steps.{hash}
use Rattle.waves.specs.Reading.{step_text, most_bytes}
use Rattle.conversions.specs.declared.Position.{Position}
use Rattle.streams.specs.declared.Progress.{Progress}
use Rattle.conversions.specs.Positions.{position_formed}
use Rattle.conversions.specs.Dumping.{dump_turn}
use Rattle.conversions.specs.Undumping.{undump_turn}

-- nothing stands before; or a line ends, and the next one begins with `#`
pub data StepEnds (a b : List ℕ) : Type 0 where
  nothing : a ≡ [] → StepEnds a b
  between : (x : List ℕ) → a ≡ x ++ (lf ∷ []) → get_or b 0 0 ≡ hash → StepEnds a b

-- a step ends there, or one that began before is longer than any good one
pub data BetweenSteps (a b : List ℕ) : Type 0 where
  whole : StepEnds a b → BetweenSteps a b
  long : (x y : List ℕ) → a ≡ x ++ y → StepEnds x y → length (step_text y) ≡ most_bytes → BetweenSteps a b

-- a step has at most 104 bytes, and no refusal line is longer
abbrev pub dump_room : List ℕ → ℕ
dump_room block = room_for 31 104 block

abbrev pub dump_stretch : Position → List ℕ → Stretch Position
dump_stretch p block = stretch dump_turn (length block) p block

unfoldable pub dump_block_of : Position → List ℕ → ℕ → Progress Position
dump_block_of p block room = progress_in room (dump_room block) (position_formed p) p (dump_stretch p block)

unfoldable pub dump_block_left : Position → List ℕ → List ℕ → List ℕ
dump_block_left p block buffer = left_by (dump_room block) (position_formed p) (dump_stretch p block) buffer

-- a step has three bytes at least, `#`, a digit and LF, and a trace line 31; no refusal line is longer
abbrev pub undump_room : List ℕ → ℕ
undump_room block = room_for 3 31 block

abbrev pub undump_stretch : Position → List ℕ → Stretch Position
undump_stretch p block = stretch undump_turn (length block) p block

unfoldable pub undump_block_of : Position → List ℕ → ℕ → Progress Position
undump_block_of p block room = progress_in room (undump_room block) (position_formed p) p (undump_stretch p block)

unfoldable pub undump_block_left : Position → List ℕ → List ℕ → List ℕ
undump_block_left p block buffer = left_by (undump_room block) (position_formed p) (undump_stretch p block) buffer
