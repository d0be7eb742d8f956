-- Lost counts looked through as a list.
--
--   some_listed == some count of a list is not 0 exactly where some master has lost
use Prim.Native.Nat.{ℕ}
use mathlib.Core.Path.{◌≡◌, refl, sym, ◌∙◌, ap}
use mathlib.Core.Bool.{Bool, not, ◌||◌}
use mathlib.Core.List.{List, [], ◌∷◌}
use lib.Dec.{eqb}
use lib.ListN.{length}
use Rattle.std.specs.List.{list_any}
use Rattle.rulebook.specs.Columns.{some_below, some_master}
use Rattle.rulebook.specs.State.{some_count}
use Rattle.keeping.proofs.Masks.{some_first}

some_below_length : (l : List ℕ) → list_any (λ k. not (eqb k 0)) l ≡ some_below (length l) (some_count l)
unfolding some_below
some_below_length [] = refl
some_below_length (x ∷ l) = ap (λ (b : Bool). not (eqb x 0) || b) (some_below_length l) ∙ sym (some_first (length l) (some_count (x ∷ l)))

pub some_listed : (l : List ℕ) → length l ≡ 16 → list_any (λ k. not (eqb k 0)) l ≡ some_master (some_count l)
some_listed l n = rw n at (some_below_length l)
