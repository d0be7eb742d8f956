-- What a judge gives to its sums: numbers that are small enough for one more.
--
--   Low l  == the lost counts l are below sixteen
--   Room j == the judge j may count one cycle more
use Rattle.std.specs.Prelude.{ℕ, ◌<◌, List, get_or}
use Rattle.rules.specs.Codes.{most_masters, most_cycles}
use Rattle.rulebook.specs.declared.Judge.{Judge}

pub record Low (l : List ℕ) : Type 0 where
  pub below : (i : ℕ) → i < most_masters → get_or l i 0 < most_masters

pub record Room (j : Judge) : Type 0 where
  pub count : j.count < most_cycles
  pub locked : j.locked < 1024
  pub waited : j.waited < 17
  pub lost : Low j.lost
