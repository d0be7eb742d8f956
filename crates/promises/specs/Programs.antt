-- The promises over whole programs: what they write for a whole file, in words of the rules and of runs.
--
-- proofs/Programs.antt has the proof of each promise, under the same name in lower case with underscores.
--
--   lines_at t rs   == the breach lines of cycle t, for the rules rs
--   report_from t l == the breach lines of a report: l has the rules of cycle t, those of the next cycle, and so on
use Rattle.std.specs.Prelude.{ℕ, ◌+◌, ◌≤◌, ◌≡◌, false, List, [], ◌∷◌, ◌++◌, length, Ok}
use Rattle.rules.specs.declared.State.{State}
use Rattle.rules.specs.declared.Inputs.{Inputs}
use Rattle.rules.specs.declared.Cycle.{Cycle}
use Rattle.rules.specs.Codes.{most_cycles}
use Rattle.rules.specs.State.{reset_of}
use Rattle.rulebook.specs.declared.Rule.{Rule}
use Rattle.rulebook.specs.Step.{breaches}
use Rattle.rulebook.specs.Promises.{broken_report, broken_count}
use Rattle.formats.specs.Files.{stimulus_file, trace_file}
use Rattle.formats.specs.Report.{breach_line, end_line}
use Rattle.formats.specs.Promises.{InRange, Each, ValidCycle, ValidInputs}
use Rattle.streams.specs.Arbiter.{arbiter_program}
use Rattle.streams.specs.Judging.{judge_program}
use Rattle.promises.specs.Machines.{arbiter}
use Rattle.promises.specs.Runs.{Run, trace_of}
use Rattle.promises.specs.Promises.{is_guarantee}

-- "The report has one line a breach, `cycle`, tab, rule name, .. by cycle and then in the order above"
unfoldable pub lines_at : ℕ → List Rule → List ℕ
lines_at t [] = []
lines_at t (r ∷ l) = breach_line t r ++ lines_at t l

unfoldable pub report_from : ℕ → List (List Rule) → List ℕ
report_from t [] = []
report_from t (rs ∷ l) = lines_at t rs ++ report_from (t + 1) l

-- "then `end`, tab, cycles, tab, breaches": the judging program's report on a trace file is the verdict of the rules. It has a line for
-- each rule that is broken at each cycle, and no other, and counts them all. No word of the judge is used here.
abbrev pub ReportIsTheVerdict : Type 0
ReportIsTheVerdict =
    (n : ℕ) (cs : List Cycle) → InRange n → Each (ValidCycle n) cs → length cs ≤ most_cycles
    → judge_program (trace_file n cs) ≡ report_from 0 (broken_report n cs) ++ end_line (length cs) (broken_count n cs)

-- The arbiter program writes the trace of the run from reset, for the file of its inputs.
abbrev pub WritesTheTrace : Type 0
WritesTheTrace =
    (n : ℕ) (s t : State) (xs : List Inputs) → reset_of n ≡ Ok s → (r : Run arbiter s xs t)
    → arbiter_program (stimulus_file n xs) ≡ trace_file n (trace_of r)

-- Every file of valid stimulus lines, no more than a run may have, has such a run.
abbrev pub EveryStimulusRuns : Type 0
EveryStimulusRuns =
    (n : ℕ) (xs : List Inputs) → InRange n → Each (ValidInputs n) xs → length xs ≤ most_cycles
    → (s : State) × (t : State) × (reset_of n ≡ Ok s) × Run arbiter s xs t

-- "From reset, with n masters and any accepted cycles, the arbiter breaks no guarantee", of the two programs: the one reports on what the
-- other writes, and each line of the report names an assumption.
abbrev pub NoGuaranteeReported : Type 0
NoGuaranteeReported =
    (n : ℕ) (xs : List Inputs) → InRange n → Each (ValidInputs n) xs → length xs ≤ most_cycles
    → (l : List (List Rule)) × Each (Each (λ r. is_guarantee r ≡ false)) l
    × (judge_program (arbiter_program (stimulus_file n xs)) ≡ report_from 0 l ++ end_line (length xs) (breaches l))
