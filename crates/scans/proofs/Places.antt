-- A line of a variable, in its place.
--
--   not_placed    == a line of another size is none
--   placed_by     == one of the right size is, by its bytes
--   line_inside   == a line in its place ends inside the text, and has more bytes than its width
use Prim.Native.Nat.{ℕ, ◌+◌, ◌-◌, ◌≤◌, ◌<◌}
use mathlib.Core.Path.{◌≡◌, refl}
use mathlib.Core.Bool.{Bool, true, false, ◌&&◌, ◌||◌, cond, false≢true}
use mathlib.Core.List.{List}
use native.Mathlib.Omega.{arith}
use borrow.Author.Tests.{eq-eqb, ne_eqb, eqb-true}
use lib.Dec.{eqb}
use lib.ListN.{length, get_or}
use Rattle.formats.proofs.Bytes.{present}
use Rattle.waves.specs.Variables.{size_of}
use Rattle.waves.specs.Reading.{line_size, placed}
use Rattle.scans.specs.Walks.{variable}

module _ (w k : ℕ) (s : List ℕ) (n size : ℕ) (en : n ≡ line_size s) (es : size ≡ cond (eqb w 1) (w + 2) (w + 4)) where
  pub not_placed : (n + 1 ≡ size → ⊥) → false ≡ placed (variable w k) s
  unfolding placed size_of
  not_placed ne = rw (← en, ← es, ne_eqb (n + 1) size ne)

  pub placed_by : n + 1 ≡ size → (first before last end : ℕ) → first ≡ get_or s 0 0 → before ≡ get_or s (n - 2) 0 → last ≡ get_or s (n - 1) 0 → end ≡ get_or s n 0
      → (eqb end 10 && eqb last k && (eqb w 1 || eqb first 98 && eqb before 32)) ≡ placed (variable w k) s
  unfolding placed size_of
  placed_by same first before last end ef eb el ee =
      rw (← en, ← es, eq-eqb (n + 1) size same, ← ef, ← eb, ← el, ← ee)

first_two : (a b c d : Bool) → (a && b && c && d) ≡ true → (a ≡ true) × (b ≡ true)
first_two true true c d e = (refl, refl)
first_two true false c d e = (refl, e)
first_two false b c d e = (e, absurd (false≢true e))

placed_inside : (w k : ℕ) (s : List ℕ) → placed (variable w k) s ≡ true → size_of (variable w k) ≤ length s
unfolding placed
placed_inside w k s e =
    let n = line_size s in
    let both = first_two (eqb (n + 1) (size_of (variable w k))) (eqb (get_or s n 0) 10) _ _ e in
    let size : n + 1 ≡ size_of (variable w k) = eqb-true _ _ both.0 in
    let lf : get_or s n 0 ≡ 10 = eqb-true _ _ both.1 in
    omega (arith, present s n (omega arith))

pub line_inside : (w k : ℕ) (s : List ℕ) → placed (variable w k) s ≡ true → (w < length s) × ((size : ℕ) → size ≡ cond (eqb w 1) (w + 2) (w + 4) → size ≤ length s)
unfolding size_of
line_inside w k s e =
    let h = placed_inside w k s e in
    (go (eqb w 1) h, λ size q. rw q h)
  where
    go : (f : Bool) → cond f (w + 2) (w + 4) ≤ length s → w < length s
    go true h = omega arith
    go false h = omega arith
