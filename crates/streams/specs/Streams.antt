-- A program that goes through its input line by line: what it writes is a function of the bytes it reads.
--
--   Turn S      == one line's doing: it writes some bytes and goes on in the next state after so many bytes, or it writes and stops
--   written turn k s rest == all that is written from the state s on, for the input that is left; k bounds the lines
--   Stretch S, stretch turn k s block == the same for a block of the input, at whose end there may be more to come; it ends in a state,
--                         in which it goes on or has stopped
--   then more t == a stretch, and what is written after it
use Rattle.std.specs.Prelude.{ℕ, zero, suc, List, [], ◌∷◌, ◌++◌, drop}

pub data Turn (S : Type 0) : Type 0 where
  goes : List ℕ → S → ℕ → Turn S
  stops : List ℕ → Turn S

module _ {S : Type 0} where
  abbrev pub onward : Turn S → (S → ℕ → List ℕ) → List ℕ
  onward (goes bytes s next) more = bytes ++ more s next
  onward (stops bytes) more = bytes

  -- a line has bytes, so as many turns as the input has bytes, and one, come to its end
  unfoldable pub written : (S → List ℕ → Turn S) → ℕ → S → List ℕ → List ℕ
  written turn zero s rest = []
  written turn (suc k) s rest = onward (turn s rest) (λ t next. written turn k t (drop next rest))

pub data Stretch (S : Type 0) : Type 0 where
  on : List ℕ → S → Stretch S
  done : List ℕ → S → Stretch S

module _ {S : Type 0} where
  abbrev pub before : List ℕ → Stretch S → Stretch S
  before bytes (on more s) = on (bytes ++ more) s
  before bytes (done more s) = done (bytes ++ more) s

  abbrev pub step : S → Turn S → (S → ℕ → Stretch S) → Stretch S
  step s (goes bytes t next) more = before bytes (more t next)
  step s (stops bytes) more = done bytes s

  -- where the block is used up, the rest of the input is in the next
  abbrev pub unless_empty : List ℕ → S → Stretch S → Stretch S
  unless_empty [] s t = on [] s
  unless_empty (b ∷ block) s t = t

  unfoldable pub stretch : (S → List ℕ → Turn S) → ℕ → S → List ℕ → Stretch S
  stretch turn zero s block = on [] s
  stretch turn (suc k) s block =
      unless_empty block s (step s (turn s block) (λ t next. stretch turn k t (drop next block)))

  abbrev pub then : (S → List ℕ) → Stretch S → List ℕ
  then more (on bytes s) = bytes ++ more s
  then more (done bytes s) = bytes
