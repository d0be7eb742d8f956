-- One step of the judge, with its refusals, and a whole trace judged.
--
--   judge_of j c     == the answer of a step: the refusals 10, 8, 4, 5, 6, 7, or the charges and the judge after the cycle
--   refused_of j r, taken_of j c == the answer of a step that refuses, and of one that takes the cycle
--   number_of v      == the number that a verdict answers: 0, or that of its refusal
--   charged_rules a  == the rules that an answer charges, in the order of the report
--   Judged n trace j == the judge for n masters takes the whole trace, and is then j
--   report run       == the rules charged at each cycle of such a trace
--   breaches l       == how many they are: the second number of the end line
use Rattle.std.specs.Prelude.{ℕ, ◌+◌, ◌≡◌, Bool, false, not, cond, List, [], ◌∷◌, map, leb, length, Err, Ok}
use Rattle.rules.specs.declared.Refusal.{Refusal}
use Rattle.rules.specs.declared.Refusal.TheVariants as refusal
use Rattle.rules.specs.Results.{Check}
use Rattle.rules.specs.declared.Cycle.{Cycle}
use Rattle.rules.specs.Codes.{most_cycles}
use Rattle.rules.specs.Refusals.{number_of as refusal_number}
use Rattle.rules.specs.Valid.{cycle_check}
use Rattle.rulebook.specs.declared.Rule.{Rule}
use Rattle.rulebook.specs.declared.Judge.{Judge}
use Rattle.rulebook.specs.Results.{Verdict}
use Rattle.rulebook.specs.declared.Judgement.{Judgement}
use Rattle.rulebook.specs.Rules.{rules}
use Rattle.rulebook.specs.State.{start_of, well_formed}
use Rattle.rulebook.specs.Charges.{next_judge, charges}

abbrev pub number_of : Verdict → ℕ
number_of (Ok _) = 0
number_of (Err r) = refusal_number r

-- a refusal hands the judge back as it came, and charges nothing
unfoldable pub refused_of : Judge → Refusal → Judgement
refused_of j r = record { judge = j; verdict = Err r; charged = map (λ (q : Rule). false) rules }

unfoldable pub taken_of : Judge → Cycle → Judgement
taken_of j c = record { judge = next_judge j c; verdict = Ok tt; charged = map (charges j c) rules }

abbrev pub checked_of : Check → Judge → Cycle → Judgement
checked_of (Ok _) j c = taken_of j c
checked_of (Err r) j c = refused_of j r

-- "A step of arbiter or judge: 10, 8, 4, 5, 6, 7, 11."
unfoldable pub judge_of : Judge → Cycle → Judgement
judge_of j c =
    cond (not (well_formed j)) (refused_of j refusal.State)
    (cond (leb most_cycles j.count) (refused_of j refusal.Full) (checked_of (cycle_check j.n c) j c))

-- the rules of a list whose flag is high
unfoldable pub flagged : List Bool → List Rule → List Rule
flagged [] l = []
flagged (b ∷ bs) [] = []
flagged (b ∷ bs) (r ∷ l) = cond b (r ∷ flagged bs l) (flagged bs l)

abbrev pub charged_rules : Judgement → List Rule
charged_rules a = flagged a.charged rules

-- the judge takes cycle after cycle
pub data Judging : Judge → List Cycle → Judge → Type 0 where
  ends : {j : Judge} → Judging j [] j
  takes : {j k : Judge} {c : Cycle} {l : List Cycle} → (judge_of j c).verdict ≡ Ok tt → Judging (judge_of j c).judge l k → Judging j (c ∷ l) k

pub record Judged (n : ℕ) (trace : List Cycle) (j : Judge) : Type 0 where
  pub begun : (start_of n).verdict ≡ Ok tt
  pub run : Judging (start_of n).judge trace j

unfoldable pub charges_in : {j k : Judge} {l : List Cycle} → Judging j l k → List (List Rule)
charges_in ends = []
charges_in (takes {j = j} {c = c} e r) = charged_rules (judge_of j c) ∷ charges_in r

abbrev pub report : {n : ℕ} {trace : List Cycle} {j : Judge} → Judged n trace j → List (List Rule)
report d = charges_in d.run

unfoldable pub breaches : List (List Rule) → ℕ
breaches [] = 0
breaches (r ∷ l) = length r + breaches l
