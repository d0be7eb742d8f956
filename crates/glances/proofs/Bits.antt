-- Masks joined by `|`, and their bits from n on.
--
--   or_below == a | b is below a bound only where both are
--   or_zero  == a | b is 0 where both are
--   within, without == a mask is below 2 ^ n exactly where it has no bit from n on
--   shifted  == a mask without its low bits fits
use Rattle.std.proofs.Common.{◌≡◌, ℕ, ◌*◌, ◌/◌, ◌^◌, ◌<◌, mod-lt, zero-mul, arith, pow_pos}
use native.Mathlib.Nat.{div-eq_of_lt}
use lib.Bits.{bit_or, or_zero_l}
use lib.Pow.{split, shr_le}
use Rattle.rules.proofs.Flags.{or_least}

pub or_below : (m a b : ℕ) → bit_or a b < m → (a < m) × (b < m)
or_below m a b w = let h = or_least a b in (omega arith, omega arith)

pub or_zero : {a b : ℕ} → a ≡ 0 → b ≡ 0 → bit_or a b ≡ 0
or_zero p q = rw (p, q) (or_zero_l 0)

pub within : (n m : ℕ) → m / 2 ^ n ≡ 0 → m < 2 ^ n
within n m e =
    let q : m / 2 ^ n * 2 ^ n ≡ 0 = rw e (zero-mul (2 ^ n)) in
    omega (arith, split m n, mod-lt m (pow_pos n))

pub without : (n m : ℕ) → m < 2 ^ n → m / 2 ^ n ≡ 0
without n m h = div-eq_of_lt h

pub shifted : (n m : ℕ) → m < 2 ^ 32 → m / 2 ^ n < 2 ^ 64
shifted n m h = omega (arith, shr_le m n)
