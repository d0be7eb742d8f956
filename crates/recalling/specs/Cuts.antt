-- Where a block of a dump is cut, before it is known what comes after it.
--
--   ends_at s i == a step ends at i: an LF stands there, and a `#` behind it
--   Parted a b  == the steps of a are taken and b is kept: whatever comes after b, the input may be cut between them
--   CutAt s r   == r bytes of the block s are taken, and the rest is kept
use Rattle.std.specs.Prelude.{ℕ, ◌+◌, ◌≤◌, Bool, ◌&&◌, List, ◌++◌, eqb, length, get_or, take, drop}
use Rattle.formats.specs.Digits.{lf}
use Rattle.waves.specs.Steps.{hash}
use Rattle.conversions.specs.Blocks.{BetweenSteps}

abbrev pub ends_at : List ℕ → ℕ → Bool
ends_at s i = eqb (get_or s i 0) lf && eqb (get_or s (i + 1) 0) hash

-- a longest good step has 104 bytes
pub record Parted (a b : List ℕ) : Type 0 where
  pub between : (c : List ℕ) → BetweenSteps a (b ++ c)
  pub few : length b ≤ 104

pub record CutAt (s : List ℕ) (r : ℕ) : Type 0 where
  pub inside : r ≤ length s
  pub parted : Parted (take r s) (drop r s)
