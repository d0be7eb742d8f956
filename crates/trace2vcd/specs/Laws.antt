-- Where trace2vcd stands stays well formed, and it counts its lines.
--
--   formed p == the position is well formed
--   count p  == the lines so far
use Rattle.std.specs.Prelude.{ℕ, ◌≡◌, true}
use native.Mathlib.Omega.{arith}
use Rattle.formats.specs.declared.Word.TheVariants.{Trace}
use Rattle.formats.specs.Headers.{read_header_of}
use Rattle.formats.proofs.Headers.{header_writes}
use Rattle.streams.proofs.Lines.{stepping}
use Rattle.conversions.specs.declared.Position.{Position}
use Rattle.conversions.specs.Positions.{position_formed}
use Rattle.conversions.specs.Dumping.{dump_turn}
use Rattle.conversions.proofs.Positions.{facts_of}
use Rattle.conversions.proofs.DumpNear.{dump_by_lines}
use Rattle.conversions.proofs.DumpCounted.{dump_counts}
use Rattle.conversions.proofs.DumpPromises.{dump_stays_formed}
use Rattle.console.specs.Going.{Lines}
use Rattle.console.specs.Programs.{Laws}
use Rattle.trace2vcd.specs.Answers.{begun_with}

abbrev pub formed : Position → Type 0
formed p = position_formed p ≡ true

abbrev pub count : Position → ℕ
count p = p.count

pub laws : Laws dump_turn formed count (read_header_of Trace) begun_with (Lines 31) 30 31
laws =
    record {
      some = omega arith;
      begins = λ head n next e. let range = (header_writes Trace head n next e).range in dump_stays_formed.0 n range.few range.many;
      stays = λ p block f. dump_stays_formed.1 p block f;
      shortest = 31;
      longest = 31;
      steps = stepping dump_by_lines;
      counts = dump_counts;
      bounded = λ p f. (facts_of p f).room;
      rests = λ a b h. omega (arith, h.less);
    }
