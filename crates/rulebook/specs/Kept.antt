-- What the judge keeps is a word about what was recorded: its state after a history, as a function of that history.
--
--   access_watch o          == the watch in an access at its opening
--   kept_of n h == the judge after the history h
--   Sound j     == a well-formed judge, as facts
use Rattle.std.specs.Prelude.{ℕ, ◌-◌, ◌%◌, ◌≤◌, ◌<◌, ◌≡◌, Bool, true, false, cond, List, [], ◌∷◌, length, get_or, Ok}
use Rattle.rules.specs.declared.Burst.{Burst}
use Rattle.rules.specs.declared.Burst.TheVariants as burst
use Rattle.rules.specs.declared.Cycle.{Cycle}
use Rattle.rules.specs.Codes.{most_masters, most_cycles, burst_of}
use Rattle.rules.specs.Valid.{cycle_check}
use Rattle.rulebook.specs.declared.Watch.{Watch}
use Rattle.rulebook.specs.declared.Watch.TheVariants.{Nothing, OnG2}
use Rattle.rulebook.specs.declared.Judge.{Judge}
use Rattle.rulebook.specs.Columns.{owners_request}
use Rattle.rulebook.specs.Traces.{in_a_row, access, Opened, not_yet, opened_at, opening, all, readies}
use Rattle.rulebook.specs.Rules.{locked_incr, waits, is_watched, limit, lost_in_a_row}
use Rattle.rulebook.specs.State.{no_cycle, watch_ok, start_judge}
use Rattle.rulebook.specs.Charges.{g3_with, list_from}

abbrev pub latest : List Cycle → Cycle
latest [] = no_cycle
latest (c ∷ h) = c

abbrev pub has_opened : Opened → Bool
has_opened not_yet = false
has_opened (opened_at o later) = true

-- of a watched opening of this burst: held is whether owner's request was high in every later cycle, r the later ready cycles
abbrev pub held_watch : Burst → Bool → ℕ → Watch
held_watch burst.Single held r = Nothing
held_watch burst.Unspecified held r = cond held OnG2 Nothing
held_watch (burst.Fixed b) held r = g3_with (b - 1 - r)
held_watch burst.NotBuilt held r = Nothing
held_watch burst.NoCode held r = Nothing

unfoldable pub access_watch : Opened → Watch
access_watch not_yet = Nothing
access_watch (opened_at o later) =
    cond (is_watched o) (held_watch (burst_of o.inputs.hburst) (all owners_request later) (readies later)) Nothing

unfoldable pub kept_of : ℕ → List Cycle → Judge
kept_of n h =
    record {
      n = n;
      count = length h;
      previous = latest h;
      locked = in_a_row locked_incr h % 1024;
      waited = in_a_row waits h % 17;
      opened = has_opened (opening (access h));
      watch = access_watch (opening (access h));
      lost = list_from 0 most_masters (λ i. lost_in_a_row i h % limit n);
    }

pub record Sound (j : Judge) : Type 0 where
  pub few : 2 ≤ j.n
  pub many : j.n ≤ most_masters
  pub room : j.count ≤ most_cycles
  pub previous : cycle_check j.n j.previous ≡ Ok tt
  pub locked : j.locked < 1024
  pub waited : j.waited < 17
  pub size : length j.lost ≡ most_masters
  pub lost : (i : ℕ) → i < most_masters → get_or j.lost i 0 < limit j.n
  pub absent : (i : ℕ) → i < most_masters → j.n ≤ i → get_or j.lost i 0 ≡ 0
  pub watch : watch_ok j.opened j.watch ≡ true
  pub start : j.count ≡ 0 → j ≡ start_judge j.n
