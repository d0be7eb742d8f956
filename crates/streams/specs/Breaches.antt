-- The breaches of one cycle as they are written, and what the judging program keeps.
--
--   Reported t rs .. == what the call that writes the breaches of cycle t answers, for the charged rules rs
--   Formed b         == what the judging program keeps is well formed, as facts
use Rattle.std.specs.Prelude.{ℕ, ◌*◌, ◌≤◌, ◌≡◌, List, length}
use Rattle.rulebook.specs.declared.Rule.{Rule}
use Rattle.rulebook.specs.Rules.{rules}
use Rattle.rulebook.specs.Kept.{Sound}
use Rattle.streams.specs.declared.Tally.{Tally}
use Rattle.streams.specs.Judging.{breach_lines}
use Rattle.streams.specs.Turns.{Put}

-- k bytes were written, and there are n breaches
pub record Reported (t : ℕ) (rs : List Rule) (buffer : List ℕ) (k n : ℕ) (left : List ℕ) : Type 0 where
  pub lines : Put (breach_lines t rs) buffer k left
  pub count : n ≡ length rs

pub record Formed (b : Tally) : Type 0 where
  pub judge : Sound b.judge
  pub few : b.breaches ≤ length rules * b.judge.count
