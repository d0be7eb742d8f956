-- Where a conversion stands.
--
--   start_at n line   == at the start, with the first line after the header
--   after p c lines   == after the cycle c, which had so many lines of the input
--   position_formed p == n is 2 to 16, there are at most 1,000,000 cycles, and no more lines than they can have had
use Rattle.std.specs.Prelude.{ℕ, ◌+◌, ◌*◌, Bool, ◌&&◌, leb}
use Rattle.rules.specs.declared.Cycle.{Cycle}
use Rattle.rules.specs.Codes.{most_cycles}
use Rattle.rules.specs.State.{masters_ok}
use Rattle.waves.specs.Files.{no_cycle}
use Rattle.conversions.specs.declared.Position.{Position}

abbrev pub start_at : ℕ → ℕ → Position
start_at n line = record { n = n; count = 0; before = no_cycle; line = line }

abbrev pub after : Position → Cycle → ℕ → Position
after p c lines = record { n = p.n; count = p.count + 1; before = c; line = p.line + lines }

-- a dump's header has 16 lines, and a step at most twelve: its time and eleven values
unfoldable pub position_formed : Position → Bool
position_formed p = masters_ok p.n && leb p.count most_cycles && leb p.line (12 * p.count + 17)
