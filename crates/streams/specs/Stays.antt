-- What a program keeps stays well formed: no block of a run meets 10. Each statement is proved in proofs/Stays.antt by a law of its name, in
-- lower case with underscores.
--
--   kept t             == what is kept after a stretch
use Rattle.std.specs.Prelude.{ℕ, ◌≤◌, ◌≡◌, true, List, length}
use Rattle.rules.specs.declared.State.{State}
use Rattle.rules.specs.Codes.{fewest_masters, most_masters}
use Rattle.rules.specs.State.{reset_state, well_formed}
use Rattle.streams.specs.declared.Tally.{Tally}
use Rattle.streams.specs.Streams.{Stretch, on, done}
use Rattle.streams.specs.Judging.{start_tally}
use Rattle.streams.specs.Blocks.{arbiter_stretch, tally_formed, judge_stretch}

abbrev pub kept : {S : Type 0} → Stretch S → S
kept (on bytes s) = s
kept (done bytes s) = s

-- "State records added later get such a condition in docs/, met by every state a run reaches": no block of a run meets 10
abbrev pub ArbiterStaysFormed : Type 0
ArbiterStaysFormed =
    ((n : ℕ) → fewest_masters ≤ n → n ≤ most_masters → well_formed (reset_state n) ≡ true)
    × ((s : State) (block : List ℕ) → well_formed s ≡ true → well_formed (kept (arbiter_stretch s block)) ≡ true)

-- The array of sixteen counts has its length by its type.
abbrev pub TallyStaysFormed : Type 0
TallyStaysFormed =
    ((n : ℕ) → fewest_masters ≤ n → n ≤ most_masters → tally_formed (start_tally n) ≡ true)
    × ((b : Tally) (block : List ℕ) → length b.judge.lost ≡ most_masters → tally_formed b ≡ true
    → tally_formed (kept (judge_stretch b block)) ≡ true)
