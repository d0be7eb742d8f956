-- Where vcd2trace stands stays well formed, and it counts its steps.
--
--   formed p == the position is well formed
--   count p  == the steps so far
use Rattle.std.specs.Prelude.{ℕ, ◌≡◌, true}
use native.Mathlib.Omega.{arith}
use Rattle.waves.specs.Header.{read_dump_header_of}
use Rattle.waves.proofs.Header.{header_writes}
use Rattle.conversions.specs.declared.Position.{Position}
use Rattle.conversions.specs.Positions.{position_formed}
use Rattle.conversions.specs.Undumping.{undump_turn}
use Rattle.conversions.proofs.Positions.{facts_of}
use Rattle.conversions.proofs.UndumpLines.{undump_stepping, undump_counts}
use Rattle.conversions.proofs.UndumpPromises.{undump_stays_formed}
use Rattle.recalling.specs.Cuts.{Parted}
use Rattle.console.specs.Programs.{Laws}
use Rattle.vcd2trace.specs.Answers.{begun_with}

abbrev pub formed : Position → Type 0
formed p = position_formed p ≡ true

abbrev pub count : Position → ℕ
count p = p.count

pub laws : Laws undump_turn formed count read_dump_header_of begun_with Parted 104 3
laws =
    record {
      some = omega arith;
      begins = λ head n next e. let range = (header_writes head n next e).range in undump_stays_formed.0 n range.few range.many;
      stays = λ p block f. undump_stays_formed.1 p block f;
      shortest = 3;
      longest = 104;
      steps = undump_stepping;
      counts = undump_counts;
      bounded = λ p f. (facts_of p f).room;
      rests = λ a b h. h.few;
    }
