-- The charges of a cycle as one number, and back.
--
--   mask_below    == a number of k flags is below 2 ^ k
--   mask_again    == its digits are the flags
--   mask_bit      == its bit i is the flag i
--   named_flagged == it names the rules whose flag is high
--   named_none    == 0 names none
--   named_few     == a number names no more rules than there are
--   First m rs d z, named_first == a number that is not 0 names the rule z at its lowest digit that is 1, and then those of what is left above it
use Prim.Native.Nat.{ℕ, zero, suc, ◌+◌, ◌*◌, ◌/◌, ◌%◌, ◌^◌, ◌≤◌, ◌<◌}
use mathlib.Core.Path.{◌≡◌, refl, sym}
use mathlib.Core.Bool.{Bool, false}
use mathlib.Core.List.{List, [], ◌∷◌}
use native.Mathlib.Omega.{arith}
use native.Mathlib.Nat.{pow-suc}
use lib.Dec.{eqb}
use lib.Pow.{shr-shr}
use lib.Count.{under, count_trailing_zeros}
use lib.ListN.{length, get_or, drop}
use Rattle.rules.specs.Masks.{high}
use Rattle.rules.specs.Step.{flag_of}
use Rattle.rules.proofs.Choice.{cond_elim}
use Rattle.rules.proofs.Flags.{flag_most, flag_again}
use Rattle.rules.proofs.Masks.{high_of_zero}
use Rattle.rulebook.specs.declared.Rule.{Rule}
use Rattle.rulebook.specs.Step.{flagged}
use Rattle.rulebook.specs.Named.{mask_of, flags_in, named_by}

-- a shift by one more, and by none
half_shift : (m z : ℕ) → m / 2 ^ suc z ≡ m / 2 / 2 ^ z
half_shift m z =
    let p : suc z ≡ 1 + z = omega arith in
    rw p (sym (shr-shr m 1 z))

shift_none : (m : ℕ) → m / 2 ^ 0 ≡ m
shift_none m = omega arith

lowest : (b : Bool) (k : ℕ) → (flag_of b + 2 * k) % 2 ≡ flag_of b
lowest b k = omega (arith, flag_most b)

rest : (b : Bool) (k : ℕ) → (flag_of b + 2 * k) / 2 ≡ k
rest b k = omega (arith, flag_most b)

pub mask_below : (l : List Bool) → mask_of l < 2 ^ length l
unfolding mask_of
mask_below [] = omega arith
mask_below (b ∷ l) = rw (pow-suc 2 (length l)) (omega (arith, flag_most b, mask_below l))

pub mask_again : (l : List Bool) → flags_in (length l) (mask_of l) ≡ l
unfolding mask_of flags_in
mask_again [] = refl
mask_again (b ∷ l) = rw (lowest b (mask_of l), flag_again b, rest b (mask_of l), mask_again l)

pub mask_bit : (l : List Bool) (i : ℕ) → high (mask_of l) i ≡ get_or l i false
unfolding mask_of high
mask_bit [] i = high_of_zero i
mask_bit (b ∷ l) zero = rw (shift_none (flag_of b + 2 * mask_of l), lowest b (mask_of l)) (flag_again b)
mask_bit (b ∷ l) (suc i) = rw (half_shift (flag_of b + 2 * mask_of l) i, rest b (mask_of l)) (mask_bit l i)

pub named_flagged : (l : List Bool) (rs : List Rule) → length l ≡ length rs → named_by (mask_of l) rs ≡ flagged l rs
unfolding mask_of named_by flagged
named_flagged [] [] e = refl
named_flagged [] (r ∷ rs) e = absurd (omega arith)
named_flagged (b ∷ l) [] e = refl
named_flagged (b ∷ l) (r ∷ rs) e =
    rw (lowest b (mask_of l), flag_again b, rest b (mask_of l), named_flagged l rs (omega arith))

pub named_none : (rs : List Rule) → named_by 0 rs ≡ []
unfolding named_by
named_none [] = refl
named_none (r ∷ rs) = named_none rs

pub named_few : (m : ℕ) (rs : List Rule) → length (named_by m rs) ≤ length rs
unfolding named_by
named_few m [] = omega arith
named_few m (r ∷ rs) =
    cond_elim (λ (l : List Rule). length l ≤ suc (length rs)) (eqb (m % 2) 1)
    (λ e. omega (arith, named_few (m / 2) rs))
    (λ e. omega (arith, named_few (m / 2) rs))

-- where the lowest digit that is 1 stands, and what is left above it
pub record First (m : ℕ) (rs : List Rule) (d : Rule) (z : ℕ) : Type 0 where
  pub inside : z < length rs
  pub left : m / 2 ^ z / 2 < 2 ^ length (drop (suc z) rs)
  pub is : named_by m rs ≡ get_or rs z d ∷ named_by (m / 2 ^ z / 2) (drop (suc z) rs)

pub named_first : (k m : ℕ) (rs : List Rule) (d : Rule) → 0 < m → m < 2 ^ length rs → length rs ≤ k → First m rs d (count_trailing_zeros k m)
unfolding named_by count_trailing_zeros
named_first k m [] d some below size = absurd (omega arith)
named_first zero m (r ∷ rs) d some below size = absurd (omega arith)
named_first (suc k) m (r ∷ rs) d some below size = go (m % 2) refl (λ h. named_first k (m / 2) rs d h less (omega arith))
  where
    double : 2 ^ suc (length rs) ≡ 2 ^ length rs * 2
    double = pow-suc 2 (length rs)

    less : m / 2 < 2 ^ length rs
    less = omega (arith, below, double)

    go : (b : ℕ) → m % 2 ≡ b → (0 < m / 2 → First (m / 2) rs d (count_trailing_zeros k (m / 2)))
        → First m (r ∷ rs) d (under b (count_trailing_zeros k (m / 2)))
    go zero e more =
        let f = more (omega arith) in
        let z = count_trailing_zeros k (m / 2) in
        let shift : m / 2 ^ suc z ≡ m / 2 / 2 ^ z = half_shift m z in
        record {
          inside = omega (arith, f.inside);
          left = rw shift f.left;
          is = rw (e, shift) f.is;
        }
    go (suc zero) e more = record { inside = omega arith; left = rw (shift_none m) less; is = rw (e, shift_none m) }
    go (suc (suc b)) e more = absurd (omega arith)
