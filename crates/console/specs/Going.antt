-- From read to read.
--
--   goes_on_after f == a block was used up, and the program has not stopped
--   Lines w a b     == what was read is cut between a and b: a is whole lines of w bytes, and b is less than one
--   Onward turn Cut s old t new == a program went on: with the bytes old kept and in the state s before, with new kept and in the state t after
--   Onwards ..      == it went on so, any number of times
--   Lent w most block out == buffers of these sizes: one for a line of w bytes and more, and one with room for what its lines come to, most bytes each
--   Held rest w most block out == the same, and more in the first than the bytes that are kept at most
use Rattle.std.specs.Prelude.{ℕ, ◌+◌, ◌*◌, ◌/◌, ◌≤◌, ◌<◌, ◌≡◌, Bool, true, false, List, ◌++◌, length}
use Rattle.streams.specs.declared.Flow.{Flow}
use Rattle.streams.specs.declared.Flow.TheVariants.{GoesOn, Stopped, Short, Unformed}
use Rattle.streams.specs.Streams.{Turn, on, stretch}
use Rattle.streams.specs.Blocks.{Whole}

abbrev pub goes_on_after : Flow → Bool
goes_on_after GoesOn = true
goes_on_after Stopped = false
goes_on_after Short = false
goes_on_after Unformed = false

pub record Lines (w : ℕ) (a b : List ℕ) : Type 0 where
  pub whole : Whole w a
  pub less : length b < w

-- what was kept and what was read are the lines that were taken and what is kept now: no byte is lost and none is taken twice
pub record Onward {S : Type 0} (turn : S → List ℕ → Turn S) (Cut : List ℕ → List ℕ → Type 0) (s : S) (old : List ℕ) (t : S) (new : List ℕ) : Type 0 where
  pub read : List ℕ
  pub some : 1 ≤ length read
  pub lines : List ℕ
  pub all : old ++ read ≡ lines ++ new
  -- every whole line was taken, or every whole step
  pub cut : Cut lines new
  pub bytes : List ℕ
  pub taken : stretch turn (length lines) s lines ≡ on bytes t

pub data Onwards {S : Type 0} (turn : S → List ℕ → Turn S) (Cut : List ℕ → List ℕ → Type 0) (s : S) (old : List ℕ) : S → List ℕ → Type 0 where
  still : Onwards turn Cut s old s old
  further : {t u : S} {kept new : List ℕ} → Onwards turn Cut s old t kept → Onward turn Cut t kept u new → Onwards turn Cut s old u new

-- so a cut line leaves room to read on, and no block is refused for want of room
pub record Lent (w most block out : ℕ) : Type 0 where
  pub line : w ≤ block
  pub room : (block / w + 1) * most ≤ out

-- behind what is kept there is room to read on
pub record Held (rest w most block out : ℕ) : Type 0 where
  pub more : rest < block
  pub lent : Lent w most block out
