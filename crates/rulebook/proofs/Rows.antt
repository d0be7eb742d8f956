-- Rows that restart: the length that the judge keeps is the row's, without the parts that were charged.
--
--   longer_row    == one more cycle makes the kept length that of the longer row
--   completes_row == the kept length reaches k where the row completes k
--   longer_below  == a kept length stays below k
--   longer_on     == a kept length that does not reach k grows, or starts again
use Prim.Native.Nat.{ℕ, ◌+◌, ◌%◌, ◌<◌}
use mathlib.Core.Path.{◌≡◌, refl, sym, ◌∙◌, ap}
use mathlib.Core.Bool.{Bool, true, false, ◌&&◌, cond}
use native.Mathlib.Omega.{arith}
use native.Mathlib.Nat.{mod-lt, mod_self, mod-eq_of_lt, add-mod-mod, zero-mod}
use borrow.Author.Tests.{eqb-true, eqb-false, ne_eqb, lt-ltb}
use lib.Dec.{eqb}
use Rattle.rules.proofs.Choice.{cond_elim}
use Rattle.rulebook.specs.Traces.{completes}
use Rattle.rulebook.specs.Charges.{longer}

-- the next cycle of a row completes k, or comes no nearer to it than one step
next_completes : (k r : ℕ) → r % k + 1 ≡ k → (1 + r) % k ≡ 0
next_completes k r e =
    let p : 1 + r % k ≡ k = omega arith in
    sym (add-mod-mod 1 r k) ∙ ap (λ (z : ℕ). z % k) p ∙ mod_self k

next_counts : (k r : ℕ) → 0 < k → (r % k + 1 ≡ k → ⊥) → (1 + r) % k ≡ r % k + 1
next_counts k r pos ne =
    let l = mod-lt r pos in
    let p : (1 + r % k) % k ≡ 1 + r % k = mod-eq_of_lt (omega arith) in
    let q = add-mod-mod 1 r k in
    omega arith

pub longer_row : (k r : ℕ) (f : Bool) → 0 < k → longer k f (r % k) ≡ cond f (1 + r) 0 % k
longer_row k r false pos = sym (zero-mod k)
longer_row k r true pos =
    cond_elim (λ (z : ℕ). z ≡ (1 + r) % k) (eqb (r % k + 1) k)
    (λ e. sym (next_completes k r (eqb-true _ _ e)))
    (λ e. sym (next_counts k r pos (eqb-false _ _ e)))

pub completes_row : (k r : ℕ) (f : Bool) → 0 < k → (f && eqb (r % k + 1) k) ≡ completes k (cond f (1 + r) 0)
unfolding completes
completes_row k r false pos = refl
completes_row k r true pos = rw (lt-ltb 0 (1 + r) (omega arith)) (go (eqb (r % k + 1) k) refl)
  where
    go : (b : Bool) → eqb (r % k + 1) k ≡ b → b ≡ eqb ((1 + r) % k) 0
    go true e = rw (next_completes k r (eqb-true _ _ e))
    go false e = rw (next_counts k r pos (eqb-false _ _ e)) (sym (ne_eqb (r % k + 1) 0 (λ q. omega arith)))

pub longer_below : (k r : ℕ) (f : Bool) → r < k → longer k f r < k
longer_below k r false h = omega arith
longer_below k r true h =
    cond_elim (λ (z : ℕ). z < k) (eqb (r + 1) k) (λ e. omega arith) (λ e. omega (arith, eqb-false (r + 1) k e))

pub longer_on : (k r : ℕ) (f : Bool) → (f && eqb (r + 1) k) ≡ false → cond f (r + 1) 0 ≡ longer k f r
longer_on k r true e = rw e
longer_on k r false e = refl
