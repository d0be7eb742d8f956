-- What is promised of the judge, each statement beside the sentence of the page that it states. Each is proved in
-- proofs/Promises.antt by a law of its name, in lower case with underscores.
--
--   each k f           == the list f 0, f 1, .., of k entries
--   total k f          == the sum f 0 + f 1 + .., of k terms
--   broken_report n trace == the rules that are broken at each cycle of the trace, cycle 0 first
--   broken_count n trace  == how many they are in all
--   whole_of trace     == the history of the whole trace
--   ValidTrace n trace == no cycle of the trace meets one of the refusals 4, 5, 6 and 7
--   Distinct l         == no rule stands twice in the list l
--   Accepted j c       == nothing is refused, and the step is taken
--   NumberOf j c       == the number that the step answers, test by test
use Rattle.std.specs.Prelude.{ℕ, zero, suc, ◌+◌, ◌≤◌, ◌<◌, ◌≡◌, ◌↔◌, true, false, ◌||◌, length, get_or, Err, Ok}
use mathlib.Core.List.{List, [], ◌∷◌, Memᴰ}
use Rattle.rules.specs.declared.Refusal.{Refusal}
use Rattle.rules.specs.declared.Cycle.{Cycle}
use Rattle.rules.specs.Codes.{fewest_masters, most_masters, most_cycles}
use Rattle.rules.specs.Valid.{inputs_too_large, outputs_too_large, inputs_not_built, inputs_absent, outputs_absent, owner_absent, cycle_check}
use Rattle.rulebook.specs.declared.Rule.{Rule}
use Rattle.rulebook.specs.declared.Judge.{Judge}
use Rattle.rulebook.specs.Traces.{newest_first}
use Rattle.rulebook.specs.Rules.{broken_at, broken_rules}
use Rattle.rulebook.specs.State.{no_cycle, well_formed}
use Rattle.rulebook.specs.Step.{number_of, taken_of, judge_of, charged_rules, Judged, report, breaches}
use Rattle.rulebook.specs.Kept.{kept_of, Sound}

unfoldable pub each : {A : Type 0} → ℕ → (ℕ → A) → List A
each zero f = []
each (suc k) f = f 0 ∷ each k (λ t. f (suc t))

unfoldable pub total : ℕ → (ℕ → ℕ) → ℕ
total zero f = 0
total (suc k) f = f 0 + total k (λ t. f (suc t))

-- no word of the judge is used in these
abbrev pub broken_report : ℕ → List Cycle → List (List Rule)
broken_report n trace = each (length trace) (broken_rules n trace)

abbrev pub broken_count : ℕ → List Cycle → ℕ
broken_count n trace = total (length trace) (λ t. length (broken_rules n trace t))

abbrev pub whole_of : List Cycle → List Cycle
whole_of trace = newest_first [] trace

abbrev pub ValidTrace : ℕ → List Cycle → Type 0
ValidTrace n trace = (t : ℕ) → t < length trace → cycle_check n (get_or trace t no_cycle) ≡ Ok tt

-- "The report has one line a breach, .. by cycle and then in the order above": at each cycle of a trace that is judged, the rules
-- charged are the rules broken there, in that order. No other report fits.
abbrev pub ExactCharges : Type 0
ExactCharges = (n : ℕ) (trace : List Cycle) (j : Judge) (d : Judged n trace j)
    → (length (report d) ≡ length trace)
    × ((t : ℕ) → t < length trace → get_or (report d) t [] ≡ broken_rules n trace t)
    × (report d ≡ broken_report n trace)

-- The same for one rule, as none is left out of the report's order: it stands in the report of a cycle exactly if it is broken there.
abbrev pub ChargedWhereBroken : Type 0
ChargedWhereBroken = (n : ℕ) (trace : List Cycle) (j : Judge) (d : Judged n trace j) (t : ℕ) → t < length trace
    → (r : Rule) → Memᴰ r (get_or (report d) t []) ↔ (broken_at n r trace t ≡ true)

-- "Each rule is charged at most once a cycle": no rule stands twice in what a step charges, nor in the report of a cycle, nor among the
-- rules that are broken at one.
abbrev pub Distinct : List Rule → Type 0
Distinct [] = Unit {0}
Distinct (r ∷ l) = (Memᴰ r l → ⊥) × Distinct l

abbrev pub ChargedOnce : Type 0
ChargedOnce = ((j : Judge) (c : Cycle) → Distinct (charged_rules (judge_of j c)))
    × ((n : ℕ) (trace : List Cycle) (j : Judge) (d : Judged n trace j) (t : ℕ) → Distinct (get_or (report d) t []))
    × ((n : ℕ) (trace : List Cycle) (t : ℕ) → Distinct (broken_rules n trace t))

-- "then `end`, tab, cycles, tab, breaches": the breaches are counted over the trace, not over the judge.
abbrev pub ExactCount : Type 0
ExactCount = (n : ℕ) (trace : List Cycle) (j : Judge) (d : Judged n trace j) → breaches (report d) ≡ broken_count n trace

-- "The judge uses the recorded columns only": its state is a word about what was recorded, and about nothing else.
abbrev pub KeepsTheHistory : Type 0
KeepsTheHistory = (n : ℕ) (trace : List Cycle) (j : Judge) → Judged n trace j → j ≡ kept_of n (whole_of trace)

-- "State records added later get such a condition in docs/, met by every state a run reaches"
abbrev pub StaysWellFormed : Type 0
StaysWellFormed = (n : ℕ) (trace : List Cycle) (j : Judge) → Judged n trace j → (well_formed j ≡ true) × Sound j

-- "It is well formed when ..": the test, and the facts that it stands for. The array of sixteen counts has its length by its type.
abbrev pub TestIsFacts : Type 0
TestIsFacts = (j : Judge) → length j.lost ≡ most_masters → (well_formed j ≡ true) ↔ Sound j

-- "10 is given outside it", 8 where "the count is 1,000,000 already", 4 to 7 for a cycle that is not valid: a step that meets none
-- of them is taken, and answers with the charges and the judge after the cycle,
abbrev pub NeverRefused : Type 0
NeverRefused = (j : Judge) (c : Cycle)
    → Sound j → j.count < most_cycles → cycle_check j.n c ≡ Ok tt
    → judge_of j c ≡ taken_of j c

-- and no other step is
pub record Accepted (j : Judge) (c : Cycle) : Type 0 where
  pub sound : well_formed j ≡ true
  pub room : j.count < most_cycles
  pub good : cycle_check j.n c ≡ Ok tt
  pub is : judge_of j c ≡ taken_of j c

abbrev pub TakenOnlyThen : Type 0
TakenOnlyThen = (j : Judge) (c : Cycle) → (judge_of j c).verdict ≡ Ok tt → Accepted j c

-- "Every refusal returns its number with the state and position as given": and no rule is charged.
abbrev pub RefusalsHandBack : Type 0
RefusalsHandBack = (j : Judge) (c : Cycle) (r : Refusal) → (judge_of j c).verdict ≡ Err r
    → ((judge_of j c).judge ≡ j) × (charged_rules (judge_of j c) ≡ [])

-- The same by the numbers of the page: a step that answers 0 is one that is taken, and one that answers another number hands the judge back.
abbrev pub TakenByNumber : Type 0
TakenByNumber = (j : Judge) (c : Cycle) → number_of (judge_of j c).verdict ≡ 0 → Accepted j c

abbrev pub HandsBackByNumber : Type 0
HandsBackByNumber = (j : Judge) (c : Cycle) → (number_of (judge_of j c).verdict ≡ 0 → ⊥)
    → ((judge_of j c).judge ≡ j) × (charged_rules (judge_of j c) ≡ [])

-- "A step of arbiter or judge: 10, 8, 4, 5, 6, 7, 11"; "The first test that applies, in the order given here, answers." The judge decides
-- nothing, so 11 is never given here.
pub record NumberOf (j : Judge) (c : Cycle) : Type 0 where
  pub ten : well_formed j ≡ false → number_of (judge_of j c).verdict ≡ 10
  pub eight : well_formed j ≡ true → most_cycles ≤ j.count → number_of (judge_of j c).verdict ≡ 8
  pub four : well_formed j ≡ true → j.count < most_cycles
      → (inputs_too_large c.inputs || outputs_too_large c.outputs) ≡ true
      → number_of (judge_of j c).verdict ≡ 4
  pub five : well_formed j ≡ true → j.count < most_cycles
      → (inputs_too_large c.inputs || outputs_too_large c.outputs) ≡ false → inputs_not_built c.inputs ≡ true
      → number_of (judge_of j c).verdict ≡ 5
  pub six : well_formed j ≡ true → j.count < most_cycles
      → (inputs_too_large c.inputs || outputs_too_large c.outputs) ≡ false → inputs_not_built c.inputs ≡ false
      → (inputs_absent j.n c.inputs || outputs_absent j.n c.outputs) ≡ true
      → number_of (judge_of j c).verdict ≡ 6
  pub seven : well_formed j ≡ true → j.count < most_cycles
      → (inputs_too_large c.inputs || outputs_too_large c.outputs) ≡ false → inputs_not_built c.inputs ≡ false
      → (inputs_absent j.n c.inputs || outputs_absent j.n c.outputs) ≡ false → owner_absent j.n c.outputs ≡ true
      → number_of (judge_of j c).verdict ≡ 7
  pub none : well_formed j ≡ true → j.count < most_cycles
      → (inputs_too_large c.inputs || outputs_too_large c.outputs) ≡ false → inputs_not_built c.inputs ≡ false
      → (inputs_absent j.n c.inputs || outputs_absent j.n c.outputs) ≡ false → owner_absent j.n c.outputs ≡ false
      → number_of (judge_of j c).verdict ≡ 0

abbrev pub FirstTestAnswers : Type 0
FirstTestAnswers = (j : Judge) (c : Cycle) → NumberOf j c

-- "n from 2 to 16", "At most 1,000,000 cycles a run": every trace of valid cycles within these limits is judged,
abbrev pub EveryValidTraceIsJudged : Type 0
EveryValidTraceIsJudged = (n : ℕ) (trace : List Cycle)
    → fewest_masters ≤ n → n ≤ most_masters → length trace ≤ most_cycles → ValidTrace n trace
    → (j : Judge) × Judged n trace j

-- and no other
abbrev pub OnlyValidTracesAreJudged : Type 0
OnlyValidTracesAreJudged = (n : ℕ) (trace : List Cycle) (j : Judge) → Judged n trace j
    → (fewest_masters ≤ n) × (n ≤ most_masters) × (length trace ≤ most_cycles) × ValidTrace n trace
