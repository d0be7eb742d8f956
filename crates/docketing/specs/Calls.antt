-- The judge's two calls from C. Order of a step: 9, then as a step of the judge, 10, 8, 4, 5, 6, 7; bytes that no judge has are refusal 10 too.
-- Order of a start: 9, 1. Of longer buffers only the first 42 and 4 bytes are used. A refusal changes no byte of either buffer.
--
--   recorded a .. k     == the recorded cycle whose eleven columns the caller passes as numbers
--   mask_size           == the bytes of a mask of broken rules
--   Ruling              == what a step comes to: the judge after the cycle and the mask, or a refusal
--   ruling_of a         == what the answer a of the judge comes to
--   judge_step judge broken c == what a step of the lent bytes comes to; judge_number gives the number that it answers
--   judge_stored j buffer, mask_stored m buffer == a buffer that gets the judge j, or the mask m
--   judge_after r buffer, broken_after r buffer == the two buffers after a step
--   judge_start n judge == what a start over the lent bytes comes to; start_after gives the buffer afterwards
--   JudgeStepCall, JudgeStartCall == the contracts of the two calls
use Rattle.std.specs.Prelude.{ℕ, ◌≡◌, cond, List, ◌++◌, Option, Some, None, Result, Ok, Err, ltb, length, drop}
use Rattle.rules.specs.declared.Refusal.{Refusal}
use Rattle.rules.specs.declared.Refusal.TheVariants.{Short, State as StateRefusal}
use Rattle.rules.specs.declared.Cycle.{Cycle}
use Rattle.rules.specs.Refusals.{number_of as refusal_number}
use Rattle.rulebook.specs.declared.Judge.{Judge}
use Rattle.rulebook.specs.Results.{Verdict}
use Rattle.rulebook.specs.declared.Started.{Started}
use Rattle.rulebook.specs.declared.Judgement.{Judgement}
use Rattle.rulebook.specs.State.{start_judge, start_of}
use Rattle.rulebook.specs.Named.{mask_of}
use Rattle.rulebook.specs.Step.{number_of, judge_of}
use Rattle.words.specs.Words.{low_first}
use Rattle.docketing.specs.Bytes.{judge_size, judge_bytes, bytes_judge}

-- HBUSREQ, HLOCK, HREADY, HTRANS, HBURST, HGRANT, HMASTER, HMASTLOCK, DECIDE, GRANTED, BUSREQ
abbrev pub recorded : ℕ → ℕ → ℕ → ℕ → ℕ → ℕ → ℕ → ℕ → ℕ → ℕ → ℕ → Cycle
recorded hbusreq hlock hready htrans hburst hgrant hmaster hmastlock decide granted busreq =
    record {
      inputs = record { hbusreq = hbusreq; hlock = hlock; hready = hready; htrans = htrans; hburst = hburst };
      outputs =
          record { hgrant = hgrant; hmaster = hmaster; hmastlock = hmastlock; decide = decide; granted = granted; busreq = busreq };
    }

-- 21 bits, that of A1 the lowest, in the order of the report
abbrev pub mask_size : ℕ
mask_size = 4

abbrev pub Ruling : Type 0
Ruling = Result (Judge × ℕ) Refusal

abbrev pub ruled_by : Verdict → Judgement → Ruling
ruled_by (Ok _) a = Ok (a.judge, mask_of a.charged)
ruled_by (Err r) a = Err r

abbrev pub ruling_of : Judgement → Ruling
ruling_of a = ruled_by a.verdict a

-- 10 where the bytes are no judge; else as a step of that judge, which gives 10 where it is not well formed
unfoldable pub of_docket : Option Judge → Cycle → Ruling
of_docket (Some j) c = ruling_of (judge_of j c)
of_docket None c = Err StateRefusal

unfoldable pub judge_step : List ℕ → List ℕ → Cycle → Ruling
judge_step judge broken c =
    cond (ltb (length judge) judge_size) (Err Short)
    (cond (ltb (length broken) mask_size) (Err Short) (of_docket (bytes_judge judge) c))

abbrev pub judge_number : Ruling → ℕ
judge_number (Ok (j, m)) = 0
judge_number (Err r) = refusal_number r

-- the first bytes of a buffer, and the rest as it was
unfoldable pub judge_stored : Judge → List ℕ → List ℕ
judge_stored j buffer = judge_bytes j ++ drop judge_size buffer

unfoldable pub mask_stored : ℕ → List ℕ → List ℕ
mask_stored m buffer = low_first 4 m ++ drop mask_size buffer

abbrev pub judge_after : Ruling → List ℕ → List ℕ
judge_after (Ok (j, m)) buffer = judge_stored j buffer
judge_after (Err r) buffer = buffer

abbrev pub broken_after : Ruling → List ℕ → List ℕ
broken_after (Ok (j, m)) buffer = mask_stored m buffer
broken_after (Err r) buffer = buffer

-- 9, then as a start: 1; the judge beside a refusal is one of no masters
unfoldable pub judge_start : ℕ → List ℕ → Started
judge_start n judge =
    cond (ltb (length judge) judge_size) (record { judge = start_judge 0; verdict = Err Short }) (start_of n)

abbrev pub started_by : Verdict → Judge → List ℕ → List ℕ
started_by (Ok _) j buffer = judge_stored j buffer
started_by (Err r) j buffer = buffer

abbrev pub start_after : Started → List ℕ → List ℕ
start_after a buffer = started_by a.verdict a.judge buffer

-- what the two calls promise: of the answer r, and of every byte of the buffers at exit
abbrev pub JudgeStepCall : Cycle → List ℕ → List ℕ → ℕ → List ℕ → List ℕ → Type 0
JudgeStepCall c judge broken r judge' broken' =
    (r ≡ judge_number (judge_step judge broken c))
    × (judge' ≡ judge_after (judge_step judge broken c) judge)
    × (broken' ≡ broken_after (judge_step judge broken c) broken)

abbrev pub JudgeStartCall : ℕ → List ℕ → ℕ → List ℕ → Type 0
JudgeStartCall n judge r judge' =
    (r ≡ number_of (judge_start n judge).verdict) × (judge' ≡ start_after (judge_start n judge) judge)
