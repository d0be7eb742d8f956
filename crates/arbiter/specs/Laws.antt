-- What the arbiter program keeps stays well formed, and it counts its lines.
--
--   formed s == the state is well formed
--   count s  == the lines so far
use Rattle.std.specs.Prelude.{ℕ, ◌≡◌, true}
use native.Mathlib.Omega.{arith}
use Rattle.rules.specs.declared.State.{State}
use Rattle.rules.specs.State.{reset_state, well_formed}
use Rattle.rules.proofs.WellFormed.{facts_of}
use Rattle.formats.specs.declared.Word.TheVariants.{Stim}
use Rattle.formats.specs.Headers.{read_header_of}
use Rattle.formats.proofs.Headers.{header_writes}
use Rattle.streams.specs.Arbiter.{arbiter_turn}
use Rattle.streams.proofs.Lines.{stepping}
use Rattle.streams.proofs.Near.{arbiter_by_lines}
use Rattle.streams.proofs.Counted.{arbiter_counts}
use Rattle.streams.proofs.Stays.{arbiter_stays_formed}
use Rattle.console.specs.Going.{Lines}
use Rattle.console.specs.Programs.{Laws}

abbrev pub formed : State → Type 0
formed s = well_formed s ≡ true

abbrev pub count : State → ℕ
count s = s.count

pub laws : Laws arbiter_turn formed count (read_header_of Stim) reset_state (Lines 16) 15 16
laws =
    record {
      some = omega arith;
      begins = λ head n next e. let range = (header_writes Stim head n next e).range in arbiter_stays_formed.0 n range.few range.many;
      stays = λ s block f. arbiter_stays_formed.1 s block f;
      shortest = 16;
      longest = 16;
      steps = stepping arbiter_by_lines;
      counts = arbiter_counts;
      bounded = λ s f. (facts_of s f).room;
      rests = λ a b h. omega (arith, h.less);
    }
