-- The judge's two calls over lent bytes, which answer a verdict. The calls from C answer its number (docketing/specs/Calls.antt).
--
--   verdict_of r            == the verdict on a step
--   JudgeSteps, JudgeStarts == what the calls promise: of the verdict, and of every byte of the buffers at exit
use Rattle.std.specs.Prelude.{ℕ, ◌≡◌, List, Ok, Err}
use Rattle.rules.specs.declared.Cycle.{Cycle}
use Rattle.rulebook.specs.Results.{Verdict}
use Rattle.docketing.specs.Calls.{Ruling, judge_step, judge_after, broken_after, judge_start, start_after}

abbrev pub verdict_of : Ruling → Verdict
verdict_of (Ok (j, m)) = Ok tt
verdict_of (Err r) = Err r

abbrev pub JudgeSteps : Cycle → List ℕ → List ℕ → Verdict → List ℕ → List ℕ → Type 0
JudgeSteps c judge broken v judge' broken' =
    (v ≡ verdict_of (judge_step judge broken c))
    × (judge' ≡ judge_after (judge_step judge broken c) judge)
    × (broken' ≡ broken_after (judge_step judge broken c) broken)

abbrev pub JudgeStarts : ℕ → List ℕ → Verdict → List ℕ → Type 0
JudgeStarts n judge v judge' = (v ≡ (judge_start n judge).verdict) × (judge' ≡ start_after (judge_start n judge) judge)
