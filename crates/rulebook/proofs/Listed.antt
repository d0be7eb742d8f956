-- Which rules stand in a report: no rule is left out of the list that the report goes by.
--
--   every_rule      == each rule stands in the list of rules
--   those_has, has_those == a rule of the list is among those that have f exactly if it has f
use Prim.Native.Nat.{ℕ, zero, suc, ◌<◌}
use mathlib.Core.Path.{◌≡◌, refl, sym, ◌∙◌, ap}
use mathlib.Core.Logic.{◌⊎◌, inl, inr}
use mathlib.Core.Bool.{Bool, true}
use mathlib.Core.List.Memᴰ
use mathlib.Core.List.{List, [], ◌∷◌, Memᴰ}
use native.Mathlib.Omega.{arith}
use lib.ListN.{length, get_or}
use Rattle.rules.proofs.Choice.{either}
use Rattle.rulebook.specs.declared.Rule.{Rule}
use Rattle.rulebook.specs.declared.Rule.TheVariants.{A1, A2, A3, A4, A5, A6, A7, A8, A9, G1, G2, G3, G4, G5, G6, G7, G8, G9, G10, G11, G12}
use Rattle.rulebook.specs.Rules.{rules, those}

stands : (l : List Rule) (k : ℕ) (d : Rule) → k < length l → Memᴰ (get_or l k d) l
stands [] k d h = absurd (omega arith)
stands (r ∷ l) zero d h = Memᴰ.head refl
stands (r ∷ l) (suc k) d h = Memᴰ.tail (stands l k d (omega arith))

pub every_rule : (r : Rule) → Memᴰ r rules
every_rule A1 = stands rules 0 A1 (omega arith)
every_rule A2 = stands rules 1 A1 (omega arith)
every_rule A3 = stands rules 2 A1 (omega arith)
every_rule A4 = stands rules 3 A1 (omega arith)
every_rule A5 = stands rules 4 A1 (omega arith)
every_rule A6 = stands rules 5 A1 (omega arith)
every_rule A7 = stands rules 6 A1 (omega arith)
every_rule A8 = stands rules 7 A1 (omega arith)
every_rule A9 = stands rules 8 A1 (omega arith)
every_rule G1 = stands rules 9 A1 (omega arith)
every_rule G2 = stands rules 10 A1 (omega arith)
every_rule G3 = stands rules 11 A1 (omega arith)
every_rule G4 = stands rules 12 A1 (omega arith)
every_rule G5 = stands rules 13 A1 (omega arith)
every_rule G6 = stands rules 14 A1 (omega arith)
every_rule G7 = stands rules 15 A1 (omega arith)
every_rule G8 = stands rules 16 A1 (omega arith)
every_rule G9 = stands rules 17 A1 (omega arith)
every_rule G10 = stands rules 18 A1 (omega arith)
every_rule G11 = stands rules 19 A1 (omega arith)
every_rule G12 = stands rules 20 A1 (omega arith)

pub those_has : (f : Rule → Bool) (r : Rule) {l : List Rule} → Memᴰ r l → f r ≡ true → Memᴰ r (those f l)
unfolding those
those_has f r (Memᴰ.head {x = x} e) h = let q : f x ≡ true = ap f (sym e) ∙ h in rw q (Memᴰ.head e)
those_has f r (Memᴰ.tail {x = x} m) h =
    either (f x) (λ q. rw q (Memᴰ.tail (those_has f r m h))) (λ q. rw q (those_has f r m h))

first_or_later : (f : Rule → Bool) {r x : Rule} {l : List Rule} → (r ≡ x) ⊎ Memᴰ r l → f x ≡ true → (Memᴰ r l → f r ≡ true) → f r ≡ true
first_or_later f (inl e) h later = ap f e ∙ h
first_or_later f (inr m) h later = later m

pub has_those : (f : Rule → Bool) (l : List Rule) (r : Rule) → Memᴰ r (those f l) → f r ≡ true
unfolding those
has_those f [] r m = absurd (Memᴰ.not-nil m)
has_those f (x ∷ l) r m =
    either (f x)
    (λ q. first_or_later f (Memᴰ.cases_cons (rw q at m)) q (has_those f l r))
    (λ q. has_those f l r (rw q at m))
