-- A column passed.
--
--   shorter, shorter_line == what stands after a line is less
--   another       == a value that passed the test is another one
--   kept, changed == a column passed: as it was, and by its line
use Rattle.std.proofs.Common.{◌≡◌, ℕ, ◌+◌, ◌<◌, Bool, true, false, ◌||◌, Option, None, Some, IfSome, Bor, List, ◌++◌, length, eqb, eq-eqb, ne_eqb, length-append, arith, refl}
use borrow.Author.Tests.{eqb-false}
use Rattle.rules.proofs.Choice.{cond_elim}
use Rattle.waves.specs.Variables.{change}
use Rattle.sights.specs.Sights.{LineOf, piece, Passed}

pub shorter : (w k : ℕ) (s : List ℕ) (u : ℕ) (r : List ℕ) → LineOf w k s u r → length r < length s
unfolding change
shorter w k s u r e = rw e (cond_elim (λ x. length r < length (x ++ r)) (eqb w 1) (λ t. simp length-append (omega arith)) (λ t. simp length-append (omega arith)))

module _ (w k v : ℕ) (s : List ℕ) (l : ℕ) where
  pub kept : Passed w k v s l v s l
  unfolding piece
  kept = record { bytes = rw (eq-eqb v v refl); lines = rw (eq-eqb v v refl) (omega arith) }

  pub changed : (u : ℕ) (r : List ℕ) → (u ≡ v → ⊥) → LineOf w k s u r → Passed w k v s l u r (l + 1)
  unfolding piece
  changed u r other e = record { bytes = rw (ne_eqb u v other) e; lines = rw (ne_eqb u v other) (omega arith) }

pub shorter_line : (w k : ℕ) (s : List ℕ) (r : Option (ℕ × Bor (List ℕ))) → IfSome r (λ x. LineOf w k s x.0 x.1.now) → IfSome r (λ x. length x.1.now < length s)
shorter_line w k s None h = tt
shorter_line w k s (Some x) h = shorter w k s x.0 x.1.now h

neither : (a b : Bool) → (a || b) ≡ false → a ≡ false
neither true b e = e
neither false b e = refl

pub another : (u v : ℕ) (b : Bool) → (eqb u v || b) ≡ false → u ≡ v → ⊥
another u v b e = eqb-false u v (neither (eqb u v) b e)
