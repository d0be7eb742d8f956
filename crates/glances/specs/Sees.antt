-- What a glance says of the line that the input begins with: it is good exactly where the reader reads it.
--
--   SeesStimulus n s r == the answer of a glance at a stimulus line: its columns, or none
--   SeesTrace n s r    == the answer of a glance at a trace line
use Rattle.std.specs.Prelude.{◌≡◌, ℕ, List, ◌≢◌, Option, Ok, Some, None}
use Rattle.rules.specs.declared.Inputs.{Inputs}
use Rattle.rules.specs.declared.Cycle.{Cycle}
use Rattle.formats.specs.Lines.{read_stimulus_of, read_trace_of}

pub record SeesStimulus (n : ℕ) (s : List ℕ) (r : Option Inputs) : Type 0 where
  pub line : (x : Inputs) → r ≡ Some x → read_stimulus_of n s 0 ≡ Ok (Some (x, 16))
  pub none : r ≡ None → (y : Inputs) (k : ℕ) → read_stimulus_of n s 0 ≢ Ok (Some (y, k))

pub record SeesTrace (n : ℕ) (s : List ℕ) (r : Option Cycle) : Type 0 where
  pub line : (c : Cycle) → r ≡ Some c → read_trace_of n s 0 ≡ Ok (Some (c, 31))
  pub none : r ≡ None → (d : Cycle) (k : ℕ) → read_trace_of n s 0 ≢ Ok (Some (d, k))
