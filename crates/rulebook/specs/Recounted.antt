-- The judge's count only counts: "At most 1,000,000 cycles a run" limits it, and beside that it says one thing alone, whether this is cycle 0,
-- which has rules of its own (A9 and G12) and no previous cycle to compare. So a judge that has taken a cycle goes on alike with any count from 1
-- up to the limit, and not with 0: the rows say what becomes of that. Each statement is proved in proofs/Recounted.antt by a law of its name, in
-- lower case with underscores.
--
--   with_count k j    == the judge j, with the count k
--   DifferInCount j k == the judges j and k differ in the count alone
--   counted k j c     == what a step of j with the count k answers: its number, and the rules that it charges as a mask
--   rows, wanted      == some steps with the count 1 and with 0, and what the page says of them
use Rattle.std.specs.Prelude.{ℕ, ◌+◌, ◌^◌, ◌≤◌, ◌<◌, ◌≡◌, false, List, [], ◌∷◌, map, replicate, Ok}
use Rattle.rules.specs.declared.Cycle.{Cycle}
use Rattle.rules.specs.Codes.{fewest_masters, most_masters, most_cycles}
use Rattle.rulebook.specs.declared.Judge.{Judge}
use Rattle.rulebook.specs.declared.Watch.TheVariants.{Nothing}
use Rattle.rulebook.specs.Rules.{rules, broken}
use Rattle.rulebook.specs.State.{no_cycle}
use Rattle.rulebook.specs.Step.{number_of, judge_of}
use Rattle.rulebook.specs.Named.{mask_of}
use Rattle.rulebook.specs.Kept.{kept_of}
use Rattle.rulebook.specs.Promises.{ValidTrace}
use Rattle.rulebook.specs.Examples.{line}
use Rattle.rulebook.specs.Cases.{start}

abbrev pub with_count : ℕ → Judge → Judge
with_count k j =
    record {
      n = j.n;
      count = k;
      previous = j.previous;
      locked = j.locked;
      waited = j.waited;
      opened = j.opened;
      watch = j.watch;
      lost = j.lost;
    }

abbrev pub DifferInCount : Judge → Judge → Type 0
DifferInCount j k = with_count 0 j ≡ with_count 0 k

-- Two judges that differ in the count alone, each with a cycle behind it and room for one more, answer every cycle alike, the refusals too, and differ in
-- the count alone afterwards.
abbrev pub JudgeCountOnlyCounts : Type 0
JudgeCountOnlyCounts = (j k : Judge) (c : Cycle) → DifferInCount j k
    → 1 ≤ j.count → j.count < most_cycles → 1 ≤ k.count → k.count < most_cycles
    → ((judge_of j c).verdict ≡ (judge_of k c).verdict)
    × ((judge_of j c).charged ≡ (judge_of k c).charged)
    × DifferInCount (judge_of j c).judge (judge_of k c).judge

-- So a run may be longer than its count: after any valid history, however long, the judge of that history with any count from 1 on takes the next valid
-- cycle, charges the rules that are broken there, and is then the judge of the longer history, with one more counted.
abbrev pub ExactAtAnyLength : Type 0
ExactAtAnyLength = (n k : ℕ) (c p : Cycle) (h : List Cycle)
    → fewest_masters ≤ n → n ≤ most_masters → ValidTrace n (c ∷ (p ∷ h))
    → 1 ≤ k → k < most_cycles
    → judge_of (with_count k (kept_of n (p ∷ h))) c
    ≡ record {
      judge = with_count (k + 1) (kept_of n (c ∷ (p ∷ h)));
      verdict = Ok tt;
      charged = map (λ r. broken n r (c ∷ (p ∷ h))) rules;
    }

unfoldable pub counted : ℕ → Judge → Cycle → ℕ × ℕ
counted k j c = (number_of (judge_of (with_count k j) c).verdict, mask_of (judge_of (with_count k j) c).charged)

-- the judge of three masters after one cycle, c
abbrev after : Cycle → Judge
after c =
    record { n = 3; count = 1; previous = c; locked = 0; waited = 1; opened = false; watch = Nothing; lost = replicate 16 0 }

-- the same, if the cycle left no trace in it
abbrev bare : Judge
bare =
    record { n = 3; count = 1; previous = no_cycle; locked = 0; waited = 0; opened = false; watch = Nothing; lost = replicate 16 0 }

-- the page's cycle 1; and an idle cycle after one whose columns are all 0
abbrev second : Cycle
second = line 0x0006 0x0000 1 0 0 0x0001 0x0 0 1 0 0

abbrev empty : Cycle
empty = line 0x0000 0x0000 1 0 0 0x0000 0x0 0 0 0 0

-- with count 0 a judge that keeps anything is not well formed: 10. One that keeps nothing takes the next cycle for cycle 0, here with A9 and G12.
unfoldable pub rows : List (ℕ × ℕ)
rows =
    counted 1 (after start) second
    ∷ counted 999999 (after start) second
    ∷ counted 0 (after start) second
    ∷ counted 1 bare empty
    ∷ counted 0 bare empty
    ∷ []

abbrev pub wanted : List (ℕ × ℕ)
wanted =
    (0, 0)
    ∷ (0, 0)
    ∷ (10, 0)
    ∷ (0, 0)
    ∷ (0, 2 ^ 8 + 2 ^ 20)
    ∷ []
