-- A fact about every number below a bound, shown by computing it for each.
--
--   up_to k f  == the values of f from 0 up to k, and without it
--   same_below == two functions whose values below k are the same list are the same below k
use Prim.Native.Nat.{ℕ, zero, suc, ◌<◌}
use mathlib.Core.Path.{◌≡◌}
use mathlib.Core.List.{List, [], ◌∷◌, head-eq_of_cons-eq, tail-eq_of_cons-eq}
use native.Mathlib.Omega.{arith}

abbrev pub up_to : {A : Type 0} → ℕ → (ℕ → A) → List A
up_to zero f = []
up_to (suc k) f = f 0 ∷ up_to k (λ i. f (suc i))

pub same_below : {A : Type 0} (k : ℕ) (f g : ℕ → A) → up_to k f ≡ up_to k g → (i : ℕ) → i < k → f i ≡ g i
same_below zero f g e i h = absurd (omega arith)
same_below (suc k) f g e zero h = head-eq_of_cons-eq e
same_below (suc k) f g e (suc i) h = same_below k (λ j. f (suc j)) (λ j. g (suc j)) (tail-eq_of_cons-eq e) i (omega arith)
