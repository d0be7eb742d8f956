-- Choices between two cases, and facts of flags, for every proof above.
--
--   cond_elim     == what holds of both cases holds of the choice
--   either, order == a proof by two cases: of a flag; of an order
--   and_left, and_right, and_both, or_left, or_right == the parts of a test
--   differ        == a flag is not both high and low
use Prim.Native.Nat.{ℕ, ◌≤◌, ◌<◌}
use mathlib.Core.Path.{◌≡◌, refl, sym, ◌∙◌}
use mathlib.Core.Bool.{Bool, true, false, ◌&&◌, ◌||◌, cond, true≢false, false≢true}
use borrow.Author.Tests.{leb-true, leb-false}
use lib.Dec.{leb}

pub cond_elim : {A : Type 0} (P : A → Type 0) (b : Bool) {x y : A} → (b ≡ true → P x) → (b ≡ false → P y) → P (cond b x y)
cond_elim P true f g = f refl
cond_elim P false f g = g refl

pub either : {P : Type 0} (b : Bool) → (b ≡ true → P) → (b ≡ false → P) → P
either true f g = f refl
either false f g = g refl

pub order : {P : Type 0} (a b : ℕ) → (a ≤ b → P) → (b < a → P) → P
order a b f g = either (leb a b) (λ e. f (leb-true a b e)) (λ e. g (leb-false a b e))

pub differ : (b : Bool) → b ≡ true → b ≡ false → ⊥
differ b p q = true≢false (sym p ∙ q)

pub and_left : (a b : Bool) → (a && b) ≡ true → a ≡ true
and_left true b e = refl
and_left false b e = e

pub and_right : (a b : Bool) → (a && b) ≡ true → b ≡ true
and_right true b e = e
and_right false b e = absurd (false≢true e)

pub and_both : {a b : Bool} → a ≡ true → b ≡ true → (a && b) ≡ true
and_both {a} {b} p q = cc

pub or_left : (a b : Bool) → (a || b) ≡ false → a ≡ false
or_left true b e = e
or_left false b e = refl

pub or_right : (a b : Bool) → (a || b) ≡ false → b ≡ false
or_right true b e = absurd (true≢false e)
or_right false b e = e
