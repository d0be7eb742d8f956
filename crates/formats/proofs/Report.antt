-- Rules and refusals are told by their names and numbers.
--
--   letter_bound, index_bound, refusal_bound == what stands in a name, and how large a number is
--   rule_same    == two rules with the same letter and number are the same
--   refusal_same == two refusals with the same number are the same
--   name_tells   == two rules whose names stand before LF, in equal lines, are the same
use Prim.Native.Nat.{ℕ, ◌+◌, ◌-◌, ◌^◌, ◌≤◌, ◌<◌}
use mathlib.Core.Path.{◌≡◌, refl, sym, ◌∙◌, ap, ap₂}
use mathlib.Core.Bool.{Bool, true, cond}
use mathlib.Core.List.{[], ◌∷◌, ◌++◌, head-eq_of_cons-eq, tail-eq_of_cons-eq}
use native.Mathlib.Omega.{arith}
use borrow.Author.Tests.{leb-true, ltb-true}
use lib.Dec.{eqb, leb, ltb}
use lib.ListN.{get_or}
use Rattle.rules.specs.declared.Refusal.{Refusal}
use Rattle.rules.specs.declared.Refusal.TheVariants.{Masters, Header, Shape, Value, NotBuilt, Absent, Owner, Full, Short, State, Nobody, Dump, Time, Variable}
use Rattle.rules.specs.Refusals.{number_of}
use Rattle.rulebook.specs.declared.Rule.{Rule}
use Rattle.rulebook.specs.declared.Rule.TheVariants.{A1, A2, A3, A4, A5, A6, A7, A8, A9, G1, G2, G3, G4, G5, G6, G7, G8, G9, G10, G11, G12}
use Rattle.rulebook.specs.Rules.{rules}
use Rattle.formats.specs.Digits.{lf}
use Rattle.formats.specs.Report.{letter_of, index_of, rule_name}
use Rattle.formats.proofs.Decimal.{number_before}

-- the rule with a letter and a number: nine rules begin with 'A', which is 65
abbrev rule_at : ℕ → ℕ → Rule
rule_at letter index = get_or rules (cond (eqb letter 65) (index - 1) (index + 8)) A1

rule_known : (r : Rule)
    → ◌≡◌ {A = Rule × Bool × Bool} (rule_at (letter_of r) (index_of r), leb 65 (letter_of r), ltb (index_of r) (10 ^ 10)) (r, true, true)
rule_known A1 = refl
rule_known A2 = refl
rule_known A3 = refl
rule_known A4 = refl
rule_known A5 = refl
rule_known A6 = refl
rule_known A7 = refl
rule_known A8 = refl
rule_known A9 = refl
rule_known G1 = refl
rule_known G2 = refl
rule_known G3 = refl
rule_known G4 = refl
rule_known G5 = refl
rule_known G6 = refl
rule_known G7 = refl
rule_known G8 = refl
rule_known G9 = refl
rule_known G10 = refl
rule_known G11 = refl
rule_known G12 = refl

pub letter_bound : (r : Rule) → 65 ≤ letter_of r
letter_bound r = leb-true 65 (letter_of r) (ap (λ k. k.1) (rule_known r))

pub index_bound : (r : Rule) → index_of r < 10 ^ 10
index_bound r = ltb-true (index_of r) (10 ^ 10) (ap (λ k. k.2) (rule_known r))

pub rule_same : (q r : Rule) → letter_of q ≡ letter_of r → index_of q ≡ index_of r → q ≡ r
rule_same q r l i = sym (ap (λ k. k.0) (rule_known q)) ∙ ap₂ rule_at l i ∙ ap (λ k. k.0) (rule_known r)

abbrev refusal_at : ℕ → Refusal
refusal_at number =
    get_or
    (Masters ∷ Header ∷ Shape ∷ Value ∷ NotBuilt ∷ Absent ∷ Owner ∷ Full ∷ Short ∷ State ∷ Nobody ∷ Dump ∷ Time ∷ Variable ∷ [])
    (number - 1)
    Masters

refusal_known : (r : Refusal) → ◌≡◌ {A = Refusal × (Bool × Bool)} (refusal_at (number_of r), (ltb 0 (number_of r), ltb (number_of r) (10 ^ 10))) (r, (true, true))
refusal_known Masters = refl
refusal_known Header = refl
refusal_known Shape = refl
refusal_known Value = refl
refusal_known NotBuilt = refl
refusal_known Absent = refl
refusal_known Owner = refl
refusal_known Full = refl
refusal_known Short = refl
refusal_known State = refl
refusal_known Nobody = refl
refusal_known Dump = refl
refusal_known Time = refl
refusal_known Variable = refl

pub refusal_some : (r : Refusal) → 0 < number_of r
refusal_some r = ltb-true 0 (number_of r) (ap (λ k. k.1.0) (refusal_known r))

pub refusal_bound : (r : Refusal) → number_of r < 10 ^ 10
refusal_bound r = ltb-true (number_of r) (10 ^ 10) (ap (λ k. k.1.1) (refusal_known r))

pub refusal_same : (q r : Refusal) → number_of q ≡ number_of r → q ≡ r
refusal_same q r e = sym (ap (λ k. k.0) (refusal_known q)) ∙ ap refusal_at e ∙ ap (λ k. k.0) (refusal_known r)

pub name_tells : (q r : Rule) → rule_name q ++ (lf ∷ []) ≡ rule_name r ++ (lf ∷ []) → q ≡ r
name_tells q r e =
    rule_same q r (head-eq_of_cons-eq e)
    (number_before lf (index_of q) (index_of r) [] [] (omega arith) (index_bound q) (index_bound r) (tail-eq_of_cons-eq e)).0
