-- One line, as the calls that take it answer.
--
--   over bytes buffer == the buffer with these bytes at its start, and the rest untouched
--   size_of w         == the bytes that a writer wrote
--   Put bytes buffer k left == a writer wrote these bytes, k of them
--   bytes_in t, goes_on t, state_after s t, taken_by t == the bytes that a turn writes, whether it goes on, the state it ends in, and how many bytes it takes
--   Lined s t ..      == the answer of a call that takes one line, and the buffer afterwards, are those of the turn t
use Rattle.std.specs.Prelude.{ℕ, ◌≡◌, Bool, true, false, List, ◌++◌, length, drop, Err, Ok}
use Rattle.formats.specs.Results.{Written}
use Rattle.streams.specs.Streams.{Turn, goes, stops}

abbrev pub over : List ℕ → List ℕ → List ℕ
over bytes buffer = bytes ++ drop (length bytes) buffer

abbrev pub size_of : Written → ℕ
size_of (Ok k) = k
size_of (Err r) = 0

pub record Put (bytes buffer : List ℕ) (k : ℕ) (left : List ℕ) : Type 0 where
  pub size : k ≡ length bytes
  pub puts : left ≡ over bytes buffer

module _ {S : Type 0} where
  abbrev pub bytes_in : Turn S → List ℕ
  bytes_in (goes bytes t next) = bytes
  bytes_in (stops bytes) = bytes

  abbrev pub goes_on : Turn S → Bool
  goes_on (goes bytes t next) = true
  goes_on (stops bytes) = false

  abbrev pub state_after : S → Turn S → S
  state_after s (goes bytes t next) = t
  state_after s (stops bytes) = s

  abbrev pub taken_by : Turn S → ℕ
  taken_by (goes bytes t next) = next
  taken_by (stops bytes) = 0

pub record Lined {S : Type 0} (s : S) (t : Turn S) (buffer : List ℕ) (k : ℕ) (on : Bool) (after : S) (left : List ℕ) : Type 0 where
  pub size : k ≡ length (bytes_in t)
  pub flow : on ≡ goes_on t
  pub state : after ≡ state_after s t
  pub puts : left ≡ over (bytes_in t) buffer
