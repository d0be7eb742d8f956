-- The readings of specs/Rows.antt, each proved by the law of its name.
--
--   row_counted     == a row of cycles that all have f is as long as in_a_row says
--   completes_means == a length completes k exactly if it is a multiple of k above 0
use Prim.Native.Nat.{ℕ, zero, suc, ◌*◌, ◌/◌, ◌%◌, ◌<◌}
use mathlib.Core.Path.{◌≡◌, refl, sym}
use mathlib.Core.Logic.{◌↔◌}
use mathlib.Core.Bool.{Bool, true, false}
use mathlib.Core.List.{List, [], ◌∷◌, ◌++◌}
use native.Mathlib.Omega.{arith}
use native.Mathlib.Nat.{div-add-mod', mul-mod_left, mul-pos}
use borrow.Author.Tests.{ltb-true, lt-ltb, eqb-true, eq-eqb}
use lib.Dec.{eqb, ltb}
use lib.ListN.{length}
use Rattle.rules.specs.declared.Cycle.{Cycle}
use Rattle.rules.proofs.Choice.{and_left, and_right, and_both}
use Rattle.rulebook.specs.Traces.{always, in_a_row, completes, all}
use Rattle.rulebook.specs.Rules.{locked_incr, waits, broken}
use Rattle.rulebook.specs.Rows.{A1InARow, A2InARow}

no_row : (f : Cycle → Bool) (h : List Cycle) → always f h ≡ false → in_a_row f h ≡ 0
unfolding in_a_row
no_row f [] e = refl
no_row f (c ∷ h) e = rw e

row_counted : (f : Cycle → Bool) (l h : List Cycle) → all f l ≡ true → always f h ≡ false → in_a_row f (l ++ h) ≡ length l
unfolding in_a_row all
row_counted f [] h a e = no_row f h e
row_counted f (c ∷ l) h a e =
    rw (and_left (f c) (all f l) a, row_counted f l h (and_right (f c) (all f l) a) e) (omega arith)

-- r is a multiple of k above 0
multiple : (k q r : ℕ) → 0 < r → q * k ≡ r → (m : ℕ) × (r ≡ suc m * k)
multiple k zero r some e = absurd (omega arith)
multiple k (suc m) r some e = (m, sym e)

completes_means : (k r : ℕ) → 0 < k → (completes k r ≡ true) ↔ ((m : ℕ) × (r ≡ suc m * k))
unfolding completes
completes_means k r pos = (
  λ e.
      let some = ltb-true 0 r (and_left (ltb 0 r) (eqb (r % k) 0) e) in
      let none = eqb-true (r % k) 0 (and_right (ltb 0 r) (eqb (r % k) 0) e) in
      multiple k (r / k) r some (omega (arith, div-add-mod' r k)),
  λ q. rw q.1 (and_both (lt-ltb 0 (suc q.0 * k) (mul-pos {m = suc q.0} (omega arith) pos)) (eq-eqb _ _ (mul-mod_left (suc q.0) k))),
)

pub a1_in_a_row : A1InARow
unfolding broken
a1_in_a_row n l h a e = rw (row_counted locked_incr l h a e) (completes_means 1024 (length l) (omega arith))

pub a2_in_a_row : A2InARow
unfolding broken
a2_in_a_row n l h a e = rw (row_counted waits l h a e) (completes_means 17 (length l) (omega arith))
