-- The lines of a step after its time, over any variables whose codes rise: what is written reads back, and what is read writes back.
--
--   Coded xs       == the codes of xs rise, and each is one of the eleven
--   Within xs us   == there is a value for each variable, and its width holds it
--   total xs       == the bytes of a line for each variable
--   changes_length == there are no more bytes
--   changes_shaped, changes_values == what was written has its shape, and the values after it are those that were written
--   values_length  == there is a value for each variable
--   shaped_changes == what has its shape, and whose characters are bits, writes back as the bytes that stood there
use Prim.Native.Nat.{ℕ, suc, ◌+◌, ◌^◌, ◌≤◌, ◌<◌}
use mathlib.Core.Path.{◌≡◌, refl, ap}
use mathlib.Core.Bool.{Bool, true, false, not, ◌&&◌, ◌||◌, false≢true}
use mathlib.Core.List.{List, [], ◌∷◌, ◌++◌}
use native.Mathlib.Nat.{suc_inj}
use native.Mathlib.Omega.{arith}
use borrow.Author.Tests.{eqb-true, eq-eqb, not-true, not-false}
use lib.Dec.{eqb}
use lib.ListN.{length, drop, length-append}
use Rattle.rules.proofs.Choice.{either, cond_elim, and_left, and_right, and_both, or_left, or_right}
use Rattle.formats.specs.Promises.{Each}
use Rattle.waves.specs.Variables.{Variable, change, size_of}
use Rattle.waves.specs.Steps.{changes}
use Rattle.waves.specs.Reading.{placed, value_in, shaped, values_in}
use Rattle.waves.proofs.Changes.{change_length, change_placed, other_placed, none_placed, change_value, change_rest, placed_change}

-- the codes are '!' to '+', which are 33 to 43
abbrev pub Coded : List Variable → Type 0
Coded [] = Unit
Coded (x ∷ xs) = (33 ≤ x.code) × (x.code ≤ 43) × Each (λ y. x.code < y.code) xs × Coded xs

abbrev pub Within : List Variable → List ℕ → Type 0
Within [] [] = Unit
Within [] (u ∷ us) = ⊥
Within (x ∷ xs) [] = ⊥
Within (x ∷ xs) (u ∷ us) = (u < 2 ^ x.width) × Within xs us

unfoldable pub total : List Variable → ℕ
total [] = 0
total (x ∷ xs) = size_of x + total xs

pub changes_length : (all : Bool) (xs : List Variable) (vs us : List ℕ) → length (changes all xs vs us) ≤ total xs
unfolding changes total
changes_length all [] vs us = omega arith
changes_length all (x ∷ xs) [] us = omega arith
changes_length all (x ∷ xs) (v ∷ vs) [] = omega arith
changes_length all (x ∷ xs) (v ∷ vs) (u ∷ us) =
    let rest : List ℕ = changes all xs vs us in
    let more : length rest ≤ total xs = changes_length all xs vs us in
    cond_elim (λ l. length (l ++ rest) ≤ size_of x + total xs) (all || not (eqb u v))
    (λ e. omega (arith, length-append (change x u) rest, change_length x u))
    (λ e. omega arith)

-- the lines of later variables are not those of an earlier one
later_placed : (x : Variable) (all : Bool) (xs : List Variable) (vs us : List ℕ) → Each (λ y. x.code < y.code) xs → Coded xs
    → placed x (changes all xs vs us) ≡ false
unfolding changes
later_placed x all [] vs us later coded = none_placed x
later_placed x all (y ∷ ys) [] us later coded = none_placed x
later_placed x all (y ∷ ys) (v ∷ vs) [] later coded = none_placed x
later_placed x all (y ∷ ys) (v ∷ vs) (u ∷ us) later coded =
    cond_elim (λ l. placed x (l ++ changes all ys vs us) ≡ false) (all || not (eqb u v))
    (λ e. other_placed x y u (changes all ys vs us) (λ q. omega arith) (λ q. omega arith))
    (λ e. later_placed x all ys vs us later.1 coded.3)

pub changes_shaped : (all : Bool) (xs : List Variable) (vs us : List ℕ) → Coded xs → length vs ≡ length xs → Within xs us
    → shaped all xs vs (changes all xs vs us) ≡ true
unfolding changes shaped
changes_shaped all [] vs us coded full small = refl
changes_shaped all (x ∷ xs) [] us coded full small = absurd (omega arith)
changes_shaped all (x ∷ xs) (v ∷ vs) [] coded full small = absurd small
changes_shaped all (x ∷ xs) (v ∷ vs) (u ∷ us) coded full small =
    let rest : List ℕ = changes all xs vs us in
    let more : shaped all xs vs rest ≡ true = changes_shaped all xs vs us coded.3 (suc_inj full) small.1 in
    either (all || not (eqb u v))
    (λ e.
    rw (
      e,
      change_placed x u rest (λ q. omega arith),
      change_value x u rest small.0,
      e,
      change_rest x u rest,
    )
    more)
    (λ e. rw (e, later_placed x all xs vs us coded.2 coded.3) (and_both (ap not (or_left all (not (eqb u v)) e)) more))

pub changes_values : (all : Bool) (xs : List Variable) (vs us : List ℕ) → Coded xs → length vs ≡ length xs → Within xs us
    → values_in xs vs (changes all xs vs us) ≡ us
unfolding changes values_in
changes_values all [] vs [] coded full small = refl
changes_values all [] vs (u ∷ us) coded full small = absurd small
changes_values all (x ∷ xs) [] us coded full small = absurd (omega arith)
changes_values all (x ∷ xs) (v ∷ vs) [] coded full small = absurd small
changes_values all (x ∷ xs) (v ∷ vs) (u ∷ us) coded full small =
    let rest : List ℕ = changes all xs vs us in
    let more : values_in xs vs rest ≡ us = changes_values all xs vs us coded.3 (suc_inj full) small.1 in
    either (all || not (eqb u v))
    (λ e. rw (e, change_placed x u rest (λ q. omega arith), change_value x u rest small.0, change_rest x u rest, more))
    (λ e.
    let same : u ≡ v = eqb-true u v (not-false (eqb u v) (or_right all (not (eqb u v)) e)) in
    rw (e, later_placed x all xs vs us coded.2 coded.3, more, same))

pub values_length : (xs : List Variable) (vs s : List ℕ) → length vs ≡ length xs → length (values_in xs vs s) ≡ length xs
unfolding values_in
values_length [] vs s full = refl
values_length (x ∷ xs) [] s full = absurd (omega arith)
values_length (x ∷ xs) (v ∷ vs) s full =
    cond_elim (λ (l : List ℕ). length l ≡ length (x ∷ xs)) (placed x s)
    (λ e. ap suc (values_length xs vs (drop (size_of x) s) (suc_inj full)))
    (λ e. ap suc (values_length xs vs s (suc_inj full)))

empty : (s : List ℕ) → eqb (length s) 0 ≡ true → [] ≡ s
empty [] e = refl
empty (b ∷ s) e = absurd (omega (arith, eqb-true (length (b ∷ s)) 0 e))

pub shaped_changes : (all : Bool) (xs : List Variable) (vs s : List ℕ) → shaped all xs vs s ≡ true → Within xs (values_in xs vs s)
    → changes all xs vs (values_in xs vs s) ≡ s
unfolding changes shaped values_in
shaped_changes all [] vs s e small = empty s e
shaped_changes all (x ∷ xs) [] s e small = absurd (false≢true e)
shaped_changes all (x ∷ xs) (v ∷ vs) s e small =
    either (placed x s)
    (λ p.
    let rest : List ℕ = drop (size_of x) s in
    let moved : Bool = all || not (eqb (value_in x s) v) in
    let shape : (moved && shaped all xs vs rest) ≡ true = rw p at e in
    let fits : (value_in x s < 2 ^ x.width) × Within xs (values_in xs vs rest) = rw p at small in
    let here : moved ≡ true = and_left moved (shaped all xs vs rest) shape in
    let later : changes all xs vs (values_in xs vs rest) ≡ rest =
    shaped_changes all xs vs rest (and_right moved (shaped all xs vs rest) shape) fits.1 in
    rw (p, here, later) (placed_change x s p fits.0))
    (λ p.
    let shape : (not all && shaped all xs vs s) ≡ true = rw p at e in
    let fits : (v < 2 ^ x.width) × Within xs (values_in xs vs s) = rw p at small in
    let some : all ≡ false = not-true all (and_left (not all) (shaped all xs vs s) shape) in
    let later : changes all xs vs (values_in xs vs s) ≡ s =
    shaped_changes all xs vs s (and_right (not all) (shaped all xs vs s) shape) fits.1 in
    rw (p, later, some, eq-eqb v v refl))
