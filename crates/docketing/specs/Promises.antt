-- What is promised of the judge's bytes and calls. Each statement is proved in proofs/ by a law of its name, in lower case with underscores.
--
--   AreBytes b       == each element of b is a byte, as those of a lent buffer are
use Rattle.std.specs.Prelude.{ℕ, ◌≤◌, ◌<◌, ◌≡◌, List, ◌++◌, Some, map, length, get_or, take, drop}
use Rattle.rules.specs.declared.Cycle.{Cycle}
use Rattle.rules.specs.Masks.{high}
use Rattle.rulebook.specs.declared.Rule.TheVariants.{A1}
use Rattle.rulebook.specs.declared.Judge.{Judge}
use Rattle.rulebook.specs.Rules.{rules}
use Rattle.rulebook.specs.Charges.{charges}
use Rattle.rulebook.specs.Named.{mask_of}
use Rattle.rulebook.specs.Kept.{Sound}
use Rattle.rulebook.specs.Recounted.{with_count}
use Rattle.words.specs.Words.{low_first}
use Rattle.docketing.specs.Bytes.{judge_size, judge_bytes, bytes_judge}
use Rattle.docketing.specs.Calls.{JudgeStepCall, JudgeStartCall}

abbrev pub AreBytes : List ℕ → Type 0
AreBytes b = (i : ℕ) → get_or b i 0 < 256

-- The bytes and the well-formed judges correspond one to one: a well-formed judge has 42 bytes,
abbrev pub HasItsBytes : Type 0
HasItsBytes = (j : Judge) → Sound j → (length (judge_bytes j) ≡ judge_size) × AreBytes (judge_bytes j)

-- reading them gives it back, whatever follows them,
abbrev pub ReadAgain : Type 0
ReadAgain = (j : Judge) (rest : List ℕ) → Sound j → bytes_judge (judge_bytes j ++ rest) ≡ Some j

-- bytes that are read as a judge are its bytes,
abbrev pub WrittenAgain : Type 0
WrittenAgain = (b : List ℕ) (j : Judge) → judge_size ≤ length b → AreBytes b → bytes_judge b ≡ Some j → judge_bytes j ≡ take judge_size b

-- and no two well-formed judges have the same bytes.
abbrev pub OneJudge : Type 0
OneJudge = (j k : Judge) → Sound j → Sound k → judge_bytes j ≡ judge_bytes k → j ≡ k

-- The count stands in bytes 8 to 11 and nowhere else: setting them sets the count.
abbrev pub CountInItsBytes : Type 0
CountInItsBytes = (j : Judge) (k : ℕ) → judge_bytes (with_count k j) ≡ take 8 (judge_bytes j) ++ (low_first 4 k ++ drop 12 (judge_bytes j))

-- The mask names each rule by its place in the report's order: bit i is that of the rule i.
abbrev pub MaskNamesTheCharged : Type 0
MaskNamesTheCharged = (j : Judge) (c : Cycle) (i : ℕ) → i < length rules → high (mask_of (map (charges j c) rules)) i ≡ charges j c (get_or rules i A1)

-- "Every refusal returns its number with the state .. as given; no lent byte changes."
abbrev pub RefusedStepsKeep : Type 0
RefusedStepsKeep = (c : Cycle) (judge broken judge' broken' : List ℕ) (number : ℕ) → 1 ≤ number
    → JudgeStepCall c judge broken number judge' broken' → (judge' ≡ judge) × (broken' ≡ broken)

abbrev pub RefusedStartsKeep : Type 0
RefusedStartsKeep = (n : ℕ) (judge judge' : List ℕ) (number : ℕ) → 1 ≤ number → JudgeStartCall n judge number judge' → judge' ≡ judge

-- The contracts leave no choice: two results that meet one are equal.
abbrev pub OneStep : Type 0
OneStep = (c : Cycle) (judge broken : List ℕ) (r r' : ℕ) (j j' b b' : List ℕ)
    → JudgeStepCall c judge broken r j b → JudgeStepCall c judge broken r' j' b'
    → (r ≡ r') × (j ≡ j') × (b ≡ b')

abbrev pub OneStart : Type 0
OneStart = (n : ℕ) (judge : List ℕ) (r r' : ℕ) (j j' : List ℕ) → JudgeStartCall n judge r j → JudgeStartCall n judge r' j' → (r ≡ r') × (j ≡ j')
