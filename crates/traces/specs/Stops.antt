-- Where a block of trace lines stops.
--
--   NotTaken b s == the line that s begins with is not one that the judge takes: it is no line, or the run has all its cycles
use Rattle.std.specs.Prelude.{ℕ, ◌≤◌, ◌≡◌, List, Ok, Some}
use Rattle.rules.specs.declared.Cycle.{Cycle}
use Rattle.rules.specs.Codes.{most_cycles}
use Rattle.formats.specs.Lines.{read_trace_of}
use Rattle.streams.specs.declared.Tally.{Tally}

pub record NotTaken (b : Tally) (s : List ℕ) : Type 0 where
  pub full : (c : Cycle) (k : ℕ) → read_trace_of b.judge.n s 0 ≡ Ok (Some (c, k)) → most_cycles ≤ b.judge.count
