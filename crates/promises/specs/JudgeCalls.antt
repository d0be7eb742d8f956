-- The promises over a C caller of the judge: a start and then any steps over the same 42 bytes judge what was recorded, cycle by cycle.
--
-- The calls stand here by their contracts, JudgeStepCall and JudgeStartCall of docketing/specs/Calls.antt, which the exported functions meet.
-- proofs/JudgeCalls.antt has the proof of each promise, under the same name in lower case with underscores.
--
--   bit_of mask i       == bit i of a mask that lies in bytes, low byte first
--   Calls judge cs masks last == steps one after the other, from the bytes `judge` to the bytes `last`: those that answered 0 had the cycles cs
--                         and left these masks in their buffers; the others were refused
--   Judges n lent cs masks last == the judge of n masters takes the trace cs: the bytes `last` are those of the judge after it, and the rest of
--                         what was lent; bit i of the mask of a cycle is high exactly where the rule i of the report's order is broken there
use Rattle.std.specs.Prelude.{ℕ, ◌+◌, ◌≤◌, ◌<◌, ◌≡◌, Bool, List, [], ◌∷◌, ◌++◌, length, get_or, drop}
use Rattle.rules.specs.declared.Cycle.{Cycle}
use Rattle.rules.specs.Codes.{fewest_masters, most_masters, most_cycles}
use Rattle.rules.specs.Masks.{high}
use Rattle.rulebook.specs.declared.Rule.TheVariants.{A1}
use Rattle.rulebook.specs.declared.Judge.{Judge}
use Rattle.rulebook.specs.Rules.{rules, broken, broken_at}
use Rattle.rulebook.specs.Step.{Judged}
use Rattle.rulebook.specs.Kept.{kept_of}
use Rattle.rulebook.specs.Promises.{ValidTrace}
use Rattle.rulebook.specs.Recounted.{with_count}
use Rattle.words.specs.Words.{number_low}
use Rattle.docketing.specs.Bytes.{judge_size, judge_bytes}
use Rattle.docketing.specs.Calls.{mask_size, JudgeStepCall, JudgeStartCall}

abbrev pub bit_of : List ℕ → ℕ → Bool
bit_of mask i = high (number_low mask_size mask 0) i

pub data Calls : List ℕ → List Cycle → List (List ℕ) → List ℕ → Type 0 where
  none : {judge : List ℕ} → Calls judge [] [] judge
  taken : {c : Cycle} {judge judge' mask last : List ℕ} {cs : List Cycle} {masks : List (List ℕ)} (buffer : List ℕ)
      → JudgeStepCall c judge buffer 0 judge' mask → Calls judge' cs masks last → Calls judge (c ∷ cs) (mask ∷ masks) last
  refused : {judge judge' last : List ℕ} {cs : List Cycle} {masks : List (List ℕ)} (c : Cycle) (buffer mask : List ℕ) (number : ℕ)
      → 1 ≤ number → JudgeStepCall c judge buffer number judge' mask → Calls judge' cs masks last → Calls judge cs masks last

pub record Judges (n : ℕ) (lent : List ℕ) (cs : List Cycle) (masks : List (List ℕ)) (last : List ℕ) : Type 0 where
  pub end : Judge
  pub run : Judged n cs end
  pub bytes : last ≡ judge_bytes end ++ drop judge_size lent
  pub as_many : length masks ≡ length cs
  pub names : (t i : ℕ) → t < length cs → i < length rules → bit_of (get_or masks t []) i ≡ broken_at n (get_or rules i A1) cs t

-- What the caller is told at a cycle is what is broken there, as the rules read what was recorded so far; no word of the judge is used in that.
abbrev pub CallsJudgeTheRun : Type 0
CallsJudgeTheRun =
    (n : ℕ) (lent judge last : List ℕ) (cs : List Cycle) (masks : List (List ℕ)) → JudgeStartCall n lent 0 judge → Calls judge cs masks last
    → Judges n lent cs masks last

-- And none is refused that need not be: with both buffers long enough, every list of valid cycles, no more than a run may have, is taken.
abbrev pub EveryCycleIsTaken : Type 0
EveryCycleIsTaken =
    (n : ℕ) (lent buffer : List ℕ) (cs : List Cycle) → fewest_masters ≤ n → n ≤ most_masters → ValidTrace n cs → length cs ≤ most_cycles
    → judge_size ≤ length lent → mask_size ≤ length buffer
    → (judge : List ℕ) × (masks : List (List ℕ)) × (last : List ℕ) × JudgeStartCall n lent 0 judge × Calls judge cs masks last

-- A run may be longer than its count: after any valid history, however long, a step over the bytes of its judge, with any count from 1 on in bytes 8 to
-- 11, takes the next valid cycle, names what is broken there, and leaves the bytes of the judge of the longer history, with one more counted.
abbrev pub LongRunsAreJudged : Type 0
LongRunsAreJudged =
    (n k : ℕ) (c p : Cycle) (h : List Cycle) (rest buffer : List ℕ) → fewest_masters ≤ n → n ≤ most_masters → ValidTrace n (c ∷ (p ∷ h))
    → 1 ≤ k → k < most_cycles → mask_size ≤ length buffer
    → (mask : List ℕ)
    × JudgeStepCall c (judge_bytes (with_count k (kept_of n (p ∷ h))) ++ rest) buffer 0 (judge_bytes (with_count (k + 1) (kept_of n (c ∷ (p ∷ h)))) ++ rest) mask
    × ((i : ℕ) → i < length rules → bit_of mask i ≡ broken n (get_or rules i A1) (c ∷ (p ∷ h)))
