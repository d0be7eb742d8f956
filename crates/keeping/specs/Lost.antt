-- A decision as its loop sees it: the masks of the requests that it saw and of the grants that followed, and the lost counts before it.
--
--   with_lost j l == the judge j with the lost counts l
--   loses_by requests grants i == master i asked and has no grant
--   Losers requests grants m == the mask m has the bits of those masters
--   count_by n requests grants l i == its lost count after the decision
--   reaches_by n requests grants l i == it loses once more, and has then lost as many as the limit
use Rattle.std.specs.Prelude.{ℕ, ◌+◌, ◌≡◌, Bool, not, ◌&&◌, List, eqb, get_or}
use Rattle.rules.specs.Masks.{high}
use Rattle.rulebook.specs.declared.Judge.{Judge}
use Rattle.rulebook.specs.Rules.{limit}
use Rattle.rulebook.specs.Charges.{longer}

abbrev pub with_lost : Judge → List ℕ → Judge
with_lost j l =
    record {
      n = j.n;
      count = j.count;
      previous = j.previous;
      locked = j.locked;
      waited = j.waited;
      opened = j.opened;
      watch = j.watch;
      lost = l;
    }

abbrev pub loses_by : ℕ → ℕ → ℕ → Bool
loses_by requests grants i = high requests i && not (high grants i)

pub record Losers (requests grants m : ℕ) : Type 0 where
  pub each : (i : ℕ) → high m i ≡ loses_by requests grants i

abbrev pub count_by : ℕ → ℕ → ℕ → List ℕ → ℕ → ℕ
count_by n requests grants l i = longer (limit n) (loses_by requests grants i) (get_or l i 0)

abbrev pub reaches_by : ℕ → ℕ → ℕ → List ℕ → ℕ → Bool
reaches_by n requests grants l i = loses_by requests grants i && eqb (get_or l i 0 + 1) (limit n)
