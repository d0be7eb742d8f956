-- The digits of a number stored one after the other.
--
--   Spread number m i l == the first i digits of the number stand in l, and m is what is left of it
--   spread_first, spread_next, spread_all == the loop begins, goes one digit on, and has stored all
use Prim.Native.Nat.{ℕ, suc, ◌+◌, ◌-◌, ◌/◌, ◌%◌, ◌≤◌, ◌<◌}
use mathlib.Core.Path.{◌≡◌, refl, sym, ◌∙◌}
use mathlib.Core.Bool.{Bool}
use mathlib.Core.List.{List, [], ◌∷◌, ◌++◌, append-nil, append_assoc}
use native.Mathlib.Omega.{arith}
use native.Mathlib.Numerals.{add-one}
use lib.Dec.{eqb}
use lib.ListN.{length, take, set, length-set}
use lib.Seq.{take-suc-set, take_all}
use Rattle.rulebook.specs.Named.{flags_in}

pub record Spread (number m i : ℕ) (l : List Bool) : Type 0 where
  pub within : i ≤ 21
  pub size : length l ≡ 21
  pub left : flags_in 21 number ≡ take i l ++ flags_in (21 - i) m

pub spread_first : (number : ℕ) (l : List Bool) → length l ≡ 21 → Spread number number 0 l
spread_first number l n = record { within = omega arith; size = n; left = refl }

pub spread_next : (number m i : ℕ) (l : List Bool) → Spread number m i l → i < 21 → Spread number (m / 2) (i + 1) (set l i (eqb (m % 2) 1))
unfolding flags_in
spread_next number m i l s h =
    let v = eqb (m % 2) 1 in
    let put : take (i + 1) (set l i v) ≡ take i l ++ (v ∷ []) = rw (add-one i) (take-suc-set l i v (omega (arith, s.size))) in
    let more : 21 - i ≡ suc (21 - (i + 1)) = omega arith in
    record {
      within = omega arith;
      size = length-set l i v ∙ s.size;
      left =
          s.left ∙ rw (more, put) (sym (append_assoc (take i l) (v ∷ []) (flags_in (21 - (i + 1)) (m / 2))));
    }

pub spread_all : (number m i : ℕ) (l : List Bool) → Spread number m i l → 21 ≤ i → l ≡ flags_in 21 number
unfolding flags_in
spread_all number m i l s h =
    let none : 21 - i ≡ 0 = omega (arith, s.within) in
    sym (s.left ∙ rw none (append-nil (take i l) ∙ take_all i l (omega (arith, s.size))))
