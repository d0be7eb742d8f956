-- No rule is listed twice in a cycle: the report goes by a list in which the rules' places rise.
--
--   place r         == the place of a rule in the order of the report
--   Rising k l      == the places in l rise, from k on
--   rising_rules    == they do in the list of rules
--   those_rise, flagged_rise == and in what is left of a list that rises
--   rising_distinct == in such a list no rule stands twice
--   run_distinct    == nor in the report of a cycle
use Prim.Native.Nat.{ℕ, zero, suc, ◌≤◌}
use mathlib.Core.Path.{◌≡◌}
use mathlib.Core.Logic.{◌⊎◌, inl, inr}
use mathlib.Core.Bool.{Bool}
use mathlib.Core.List.Memᴰ
use mathlib.Core.List.{List, [], ◌∷◌, Memᴰ}
use native.Mathlib.Omega.{arith}
use lib.ListN.{get_or}
use Rattle.rules.specs.declared.Cycle.{Cycle}
use Rattle.rules.proofs.Choice.{cond_elim}
use Rattle.rulebook.specs.declared.Rule.{Rule}
use Rattle.rulebook.specs.declared.Rule.TheVariants.{A1, A2, A3, A4, A5, A6, A7, A8, A9, G1, G2, G3, G4, G5, G6, G7, G8, G9, G10, G11, G12}
use Rattle.rulebook.specs.declared.Judge.{Judge}
use Rattle.rulebook.specs.declared.Judgement.{Judgement}
use Rattle.rulebook.specs.Rules.{rules, those}
use Rattle.rulebook.specs.Step.{judge_of, flagged, charged_rules, Judging, ends, takes, charges_in}
use Rattle.rulebook.specs.Promises.{Distinct}

abbrev place : Rule → ℕ
place A1 = 1
place A2 = 2
place A3 = 3
place A4 = 4
place A5 = 5
place A6 = 6
place A7 = 7
place A8 = 8
place A9 = 9
place G1 = 10
place G2 = 11
place G3 = 12
place G4 = 13
place G5 = 14
place G6 = 15
place G7 = 16
place G8 = 17
place G9 = 18
place G10 = 19
place G11 = 20
place G12 = 21

abbrev Rising : ℕ → List Rule → Type 0
Rising k [] = Unit {0}
Rising k (r ∷ l) = (k ≤ place r) × Rising (suc (place r)) l

rising_rules : Rising 1 rules
rising_rules = search arith

rising_from : (j k : ℕ) (l : List Rule) → j ≤ k → Rising k l → Rising j l
rising_from j k [] h up = tt
rising_from j k (r ∷ l) h up = (omega (arith, up.0), up.1)

those_rise : (k : ℕ) (f : Rule → Bool) (l : List Rule) → Rising k l → Rising k (those f l)
unfolding those
those_rise k f [] up = tt
those_rise k f (r ∷ l) up =
    let rest = those_rise (suc (place r)) f l up.1 in
    cond_elim (Rising k) (f r) (λ _. (up.0, rest)) (λ _. rising_from k (suc (place r)) (those f l) (omega (arith, up.0)) rest)

flagged_rise : (k : ℕ) (bs : List Bool) (l : List Rule) → Rising k l → Rising k (flagged bs l)
unfolding flagged
flagged_rise k [] l up = tt
flagged_rise k (b ∷ bs) [] up = tt
flagged_rise k (b ∷ bs) (r ∷ l) up =
    let rest = flagged_rise (suc (place r)) bs l up.1 in
    cond_elim (Rising k) b (λ _. (up.0, rest)) (λ _. rising_from k (suc (place r)) (flagged bs l) (omega (arith, up.0)) rest)

-- a rule of a list that rises from k on has a place from k on
here_or_later : (k : ℕ) (r x : Rule) (l : List Rule) → (r ≡ x) ⊎ Memᴰ r l → k ≤ place x → (Memᴰ r l → suc (place x) ≤ place r) → k ≤ place r
here_or_later k r x l (inl e) low later = rw e low
here_or_later k r x l (inr m) low later = omega (arith, later m)

at_least : (k : ℕ) (r : Rule) (l : List Rule) → Rising k l → Memᴰ r l → k ≤ place r
at_least k r [] up m = absurd (Memᴰ.not-nil m)
at_least k r (x ∷ l) up m =
    here_or_later k r x l (Memᴰ.cases_cons m) up.0 (λ later. at_least (suc (place x)) r l up.1 later)

rising_distinct : (k : ℕ) (l : List Rule) → Rising k l → Distinct l
rising_distinct k [] up = tt
rising_distinct k (r ∷ l) up =
    (λ m. omega (arith, at_least (suc (place r)) r l up.1 m), rising_distinct (suc (place r)) l up.1)

pub those_distinct : (f : Rule → Bool) → Distinct (those f rules)
those_distinct f = rising_distinct 1 (those f rules) (those_rise 1 f rules rising_rules)

pub charged_distinct : (a : Judgement) → Distinct (charged_rules a)
charged_distinct a = rising_distinct 1 (charged_rules a) (flagged_rise 1 a.charged rules rising_rules)

pub run_distinct : {j k : Judge} {l : List Cycle} (run : Judging j l k) (t : ℕ) → Distinct (get_or (charges_in run) t [])
unfolding charges_in
run_distinct ends t = tt
run_distinct (takes {j = j} {c = c} e run) zero = charged_distinct (judge_of j c)
run_distinct (takes e run) (suc t) = run_distinct run t
