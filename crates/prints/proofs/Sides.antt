-- Numbers side by side in one number.
--
--   apart       == two masks with a byte of room after each of their bytes
--   nibbles     == their digits, a byte each
--   letter_bits == for each of eight bytes whether 16 is in it
--   turned      == four bytes in the other order
--   digits_small, letters_small == how large such numbers are
use Prim.Native.Nat.{ℕ, ◌+◌, ◌*◌, ◌/◌, ◌%◌, ◌^◌, ◌<◌}
use mathlib.Core.Path.{◌≡◌, ◌∙◌}
use mathlib.Core.List.{[], ◌∷◌, ◌++◌}
use native.Mathlib.Omega.{arith}
use Rattle.std.specs.Int.{w32, swap_bytes}
use Rattle.words.specs.Words.{low_first, number_low}
use Rattle.prints.specs.Prints.{digits_low, letters_of, backwards}

-- a multiple of 256 leaves the low byte
low_part : (x y : ℕ) → y < 256 → (x * 16777216 + y) % 256 ≡ y
low_part x y h = omega arith

pub apart : (a b w : ℕ) → a < 65536 → b < 65536 → w ≡ a * 4294967296 + b
    → w + (w / 256 % 256 + w / 1099511627776 % 256 * 4294967296) * 65280
    ≡ number_low 8 (b % 256 ∷ 0 ∷ b / 256 ∷ 0 ∷ a % 256 ∷ 0 ∷ a / 256 ∷ 0 ∷ []) 0
apart a b w ha hb e =
    let rest : w / 256 ≡ a * 16777216 + b / 256 = omega arith in
    let low : w / 256 % 256 ≡ b / 256 = rw rest (low_part a (b / 256) (omega arith)) in
    let whole : a ≡ a / 256 * 256 + a % 256 = omega arith in
    let top : w / 1099511627776 ≡ a / 256 = omega arith in
    let high : w / 1099511627776 % 256 ≡ a / 256 = rw top (omega arith) in
    omega arith

-- four bytes with room between them
spread : (x y z t w : ℕ) → x < 256 → y < 256 → z < 256 → t < 256
    → w ≡ x + y * 65536 + z * 4294967296 + t * 281474976710656
    → (w / 16 % 16 ≡ x / 16) × (w / 1048576 % 16 ≡ y / 16) × (w / 68719476736 % 16 ≡ z / 16) × (w / 4503599627370496 % 16 ≡ t / 16)
spread x y z t w hx hy hz ht e = (omega arith, omega arith, omega arith, omega arith)

-- the digits of a mask, in its two bytes
record Digits (m : ℕ) : Type 0 where
  low : m % 256 ≡ m % 16 + m / 16 % 16 * 16
  low_high : m % 256 / 16 ≡ m / 16 % 16
  high : m / 256 ≡ m / 16 / 16 % 16 + m / 16 / 16 / 16 % 16 * 16
  high_high : m / 256 / 16 ≡ m / 16 / 16 / 16 % 16

digits_of : (m : ℕ) → m < 65536 → Digits m
digits_of m h = record { low = omega arith; low_high = omega arith; high = omega arith; high_high = omega arith }

-- the high digit of each byte moves into the room after it
moved : (p q r s t u v z w : ℕ) → w ≡ number_low 8 ((p + q * 16) ∷ 0 ∷ (r + s * 16) ∷ 0 ∷ (t + u * 16) ∷ 0 ∷ (v + z * 16) ∷ 0 ∷ []) 0
    → w + (q + s * 65536 + u * 4294967296 + z * 281474976710656) * 240 ≡ number_low 8 (p ∷ q ∷ r ∷ s ∷ t ∷ u ∷ v ∷ z ∷ []) 0
moved p q r s t u v z w e = omega arith

pub nibbles : (a b w : ℕ) → a < 65536 → b < 65536
    → w ≡ number_low 8 (b % 256 ∷ 0 ∷ b / 256 ∷ 0 ∷ a % 256 ∷ 0 ∷ a / 256 ∷ 0 ∷ []) 0
    → w
    + (w / 16 % 16 + w / 1048576 % 16 * 65536 + w / 68719476736 % 16 * 4294967296 + w / 4503599627370496 % 16 * 281474976710656) * 240
    ≡ number_low 8 (digits_low b ++ digits_low a) 0
nibbles a b w ha hb e =
    let s = spread (b % 256) (b / 256) (a % 256) (a / 256) w (omega arith) (omega arith) (omega arith) (omega arith) (omega arith) in
    let da = digits_of a ha in
    let db = digits_of b hb in
    rw (s.0, s.1, s.2, s.3, db.low_high, db.high_high, da.low_high, da.high_high)
    (moved _ _ _ _ _ _ _ _ w (e ∙ rw (db.low, db.high, da.low, da.high)))

-- eight bytes one by one
sum_of : (a b c d e f g h : ℕ)
    → a + b * 256 + c * 65536 + d * 16777216 + e * 4294967296 + f * 1099511627776 + g * 281474976710656 + h * 72057594037927936
    ≡ number_low 8 (a ∷ b ∷ c ∷ d ∷ e ∷ f ∷ g ∷ h ∷ []) 0
sum_of a b c d e f g h = omega arith

-- bit 4 of a number is that of its low byte; q is t without its low four bits
bit_four : (q t : ℕ) → q ≡ t / 16 → q % 2 ≡ t % 256 / 16 % 2
bit_four q t e = omega arith

pub letter_bits : (e : ℕ)
    → e / 16 % 2
    + e / 4096 % 2 * 256
    + e / 1048576 % 2 * 65536
    + e / 268435456 % 2 * 16777216
    + e / 68719476736 % 2 * 4294967296
    + e / 17592186044416 % 2 * 1099511627776
    + e / 4503599627370496 % 2 * 281474976710656
    + e / 1152921504606846976 % 2 * 72057594037927936
    ≡ number_low 8 (letters_of (low_first 8 e)) 0
letter_bits e =
    rw (
      bit_four (e / 16) e (omega arith),
      bit_four (e / 4096) (e / 256) (omega arith),
      bit_four (e / 1048576) (e / 256 / 256) (omega arith),
      bit_four (e / 268435456) (e / 256 / 256 / 256) (omega arith),
      bit_four (e / 68719476736) (e / 256 / 256 / 256 / 256) (omega arith),
      bit_four (e / 17592186044416) (e / 256 / 256 / 256 / 256 / 256) (omega arith),
      bit_four (e / 4503599627370496) (e / 256 / 256 / 256 / 256 / 256 / 256) (omega arith),
      bit_four (e / 1152921504606846976) (e / 256 / 256 / 256 / 256 / 256 / 256 / 256) (omega arith),
    )
    (sum_of _ _ _ _ _ _ _ _)

pub turned : (w : ℕ) → swap_bytes w32 w ≡ number_low 4 (backwards (low_first 4 w)) 0
turned w = omega arith

pub digits_small : (a b d : ℕ) → d ≡ number_low 8 (digits_low b ++ digits_low a) 0 → d < 2 ^ 60
digits_small a b d e = omega arith

pub letters_small : (e r : ℕ) → r ≡ number_low 8 (letters_of (low_first 8 e)) 0 → r < 2 ^ 57
letters_small e r q = omega arith
