-- Where a block of trace lines stops.
--
--   NotTaken p s == the line that s begins with is not drawn: it is no line, or the dump has all its cycles
use Rattle.std.specs.Prelude.{ℕ, ◌≤◌, ◌≡◌, List, Ok, Some}
use Rattle.rules.specs.declared.Cycle.{Cycle}
use Rattle.rules.specs.Codes.{most_cycles}
use Rattle.formats.specs.Lines.{read_trace_of}
use Rattle.conversions.specs.declared.Position.{Position}

pub record NotTaken (p : Position) (s : List ℕ) : Type 0 where
  pub full : (c : Cycle) (k : ℕ) → read_trace_of p.n s 0 ≡ Ok (Some (c, k)) → most_cycles ≤ p.count
