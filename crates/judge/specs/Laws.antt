-- What the judging program keeps stays well formed, and it counts its lines.
--
--   count b == the lines so far
use Rattle.std.specs.Prelude.{ℕ, length}
use native.Mathlib.Omega.{arith}
use Rattle.rulebook.proofs.Soundness.{start_sound}
use Rattle.formats.specs.declared.Word.TheVariants.{Trace}
use Rattle.formats.specs.Headers.{read_header_of}
use Rattle.formats.proofs.Headers.{header_writes}
use Rattle.streams.specs.declared.Tally.{Tally}
use Rattle.streams.specs.Judging.{start_tally, judge_turn}
use Rattle.streams.specs.Breaches.{Formed}
use Rattle.streams.proofs.Lines.{stepping}
use Rattle.streams.proofs.Near.{judge_by_lines}
use Rattle.streams.proofs.Counted.{judge_counts}
use Rattle.streams.proofs.Judged.{judge_program_lem}
use Rattle.streams.proofs.Stays.{stays_formed, tally_test}
use Rattle.streams.proofs.Enough.{tally_room}
use Rattle.console.specs.Going.{Lines}
use Rattle.console.specs.Programs.{Laws}

abbrev pub count : Tally → ℕ
count b = b.judge.count

pub laws : Laws judge_turn Formed count (read_header_of Trace) start_tally (Lines 31) 30 31
laws =
    record {
      some = omega arith;
      begins = λ head n next e.
          let range = (header_writes Trace head n next e).range in
          record { judge = start_sound n range.few range.many; few = omega arith };
      stays = λ b block f. stays_formed judge_program_lem (length block) b block f;
      shortest = 31;
      longest = 31;
      steps = stepping judge_by_lines;
      counts = judge_counts;
      bounded = λ b f. tally_room b (tally_test b f);
      rests = λ x y h. omega (arith, h.less);
    }
