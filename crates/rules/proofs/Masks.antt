-- Facts of masks, once, over the number of masters.
--
--   high_of_zero   == the mask 0 has no bit
--   high_single    == the mask of g has the bit g and no other
--   high_below     == a mask below 2 ^ n has no bit from n on
--   some_is_high   == a mask below 2 ^ n that is not 0 has a bit below n
--   absent_is_high == a mask from 2 ^ n on has a bit from n on
--   high_some      == where a bit is high, some is
use Prim.Native.Nat.{ℕ, zero, suc, ◌+◌, ◌*◌, ◌/◌, ◌%◌, ◌^◌, ◌≤◌, ◌<◌}
use mathlib.Core.Path.{◌≡◌, refl, sym, ◌∙◌, ap}
use mathlib.Core.Bool.{true, false, false≢true}
use native.Mathlib.Omega.{arith}
use native.Mathlib.Nat.{pow-suc, zero-div, div-eq_of_lt, lt_of_lt_of_le}
use borrow.Author.Tests.{eq-eqb, ne_eqb}
use lib.Dec.{eqb, eqb-suc-suc, eqb-suc-zero, eqb-zero-suc}
use lib.Pow.{pow_mono, pow_pos, shr-shr, split}
use Rattle.rules.specs.Masks.{high, single, some_high}
use Rattle.rules.proofs.Choice.{order}

high_odd : (m : ℕ) → m % 2 ≡ 1 → high m 0 ≡ true
unfolding high
high_odd m h = eq-eqb (m / 1 % 2) 1 (omega arith)

high_even : (m : ℕ) → m % 2 ≡ 0 → high m 0 ≡ false
unfolding high
high_even m h = ne_eqb (m / 1 % 2) 1 (λ q. omega arith)

-- the bits from k on are those of the mask without its lowest k
pub high_shifted : (m k i : ℕ) → high (m / 2 ^ k) i ≡ high m (k + i)
unfolding high
high_shifted m k i = ap (λ (q : ℕ). eqb (q % 2) 1) (shr-shr m k i)

pub high_half : (m i : ℕ) → high m (suc i) ≡ high (m / 2) i
high_half m i =
    let p : suc i ≡ 1 + i = omega arith in
    rw p (sym (high_shifted m 1 i))

pub high_of_zero : (i : ℕ) → high 0 i ≡ false
unfolding high
high_of_zero i = rw zero-div

pub high_some : (m i : ℕ) → high m i ≡ true → some_high m ≡ true
high_some zero i h = absurd (false≢true (sym (high_of_zero i) ∙ h))
high_some (suc m) i h = rw (eqb-suc-zero m)

pub high_single : (g i : ℕ) → high (single g) i ≡ eqb g i
high_single zero zero = high_odd 1 refl
high_single zero (suc i) = high_half 1 i ∙ high_of_zero i ∙ sym (eqb-zero-suc i)
high_single (suc g) zero =
    let p : 2 ^ suc g ≡ 2 ^ g * 2 = pow-suc 2 g in
    high_even (2 ^ suc g) (omega arith) ∙ sym (eqb-suc-zero g)
high_single (suc g) (suc i) =
    let p : 2 ^ suc g ≡ 2 ^ g * 2 = pow-suc 2 g in
    let q : 2 ^ suc g / 2 ≡ 2 ^ g = omega arith in
    high_half (2 ^ suc g) i ∙ rw q (high_single g i) ∙ sym (eqb-suc-suc g i)

pub high_below : (n m i : ℕ) → m < 2 ^ n → n ≤ i → high m i ≡ false
unfolding high
high_below n m i h l =
    let q : m / 2 ^ i ≡ 0 = div-eq_of_lt (lt_of_lt_of_le h (pow_mono l)) in
    rw q

-- a master that a mask names, below n or from n on
pub record Named (m : ℕ) (Where : ℕ → Type 0) : Type 0 where
  pub at : ℕ
  pub there : Where at
  pub is_high : high m at ≡ true

pub some_is_high : (n m : ℕ) → m < 2 ^ n → (m ≡ 0 → ⊥) → Named m (λ i. i < n)
some_is_high zero m h ne = absurd (ne (omega arith))
some_is_high (suc n) m h ne =
    order 1 (m % 2)
    (λ odd. record { at = 0; there = omega arith; is_high = high_odd m (omega arith) })
    (λ even.
    let twice : m < 2 ^ n * 2 = rw pow-suc at h in
    let r = some_is_high n (m / 2) (omega arith) (λ e. ne (omega arith)) in
    record { at = suc r.at; there = omega (arith, r.there); is_high = high_half m r.at ∙ r.is_high })

below_own_power : (m : ℕ) → m < 2 ^ m
below_own_power zero = omega arith
below_own_power (suc m) =
    let p : 2 ^ suc m ≡ 2 ^ m * 2 = pow-suc 2 m in
    omega (arith, below_own_power m, pow_pos m)

pub absent_is_high : (n m : ℕ) → 2 ^ n ≤ m → Named m (λ i. n ≤ i)
absent_is_high n m h =
    let q = m / 2 ^ n in
    let r =
    some_is_high q q (below_own_power q)
    (λ e. let z : q * 2 ^ n ≡ 0 = rw e (omega arith) in omega (arith, split m n, rest)) in
    record { at = n + r.at; there = omega arith; is_high = sym (high_shifted m n r.at) ∙ r.is_high }
  where
    rest : m % 2 ^ n < 2 ^ n
    rest = native.Mathlib.Nat.mod-lt m (pow_pos n)
