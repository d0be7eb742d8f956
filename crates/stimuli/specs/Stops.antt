-- Where a block of stimulus lines stops.
--
--   NotTaken s l == the line that l begins with is not one that the arbiter takes: it is no line, or the run has all its cycles
use Rattle.std.specs.Prelude.{ℕ, ◌≤◌, ◌≡◌, List, Ok, Some}
use Rattle.rules.specs.declared.State.{State}
use Rattle.rules.specs.declared.Inputs.{Inputs}
use Rattle.rules.specs.Codes.{most_cycles}
use Rattle.formats.specs.Lines.{read_stimulus_of}

pub record NotTaken (s : State) (l : List ℕ) : Type 0 where
  pub full : (x : Inputs) (k : ℕ) → read_stimulus_of s.n l 0 ≡ Ok (Some (x, k)) → most_cycles ≤ s.count
