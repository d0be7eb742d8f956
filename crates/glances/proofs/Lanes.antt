-- A word of 64 bits as four lanes of sixteen, and a mask that leaves the high bits of each.
--
--   lanes a b c d   == the word with these lanes, from the lowest on; lanes_of: every word has its own
--   Lanes x a b c d == the lanes of x are these; lanes_at: those that x was made of
--   mask_of h i j k == the mask without the h, i, j and k low bits of the lanes
--   Low x h i j k   == the lanes of x have no bits but those
--   low_clear, clear_low == x is so exactly where the mask leaves nothing
use Rattle.std.proofs.Common.{◌≡◌, ℕ, ◌+◌, ◌-◌, ◌*◌, ◌/◌, ◌%◌, ◌^◌, ◌<◌, ◌≤◌, sym, ap, ◌∙◌, mod-eq_of_lt, zero-mul, arith, pow_pos, shr-shr, shr_lt}
use native.Mathlib.Nat.{zero-mod, zero-div}
use lib.Bits.{bit_and, and_block, and_high}
use lib.Pow.{shl-shr}
use Rattle.glances.proofs.Bits.{within, without}

abbrev pub lanes : ℕ → ℕ → ℕ → ℕ → ℕ
lanes a b c d = ((d * 2 ^ 16 + c) * 2 ^ 16 + b) * 2 ^ 16 + a

pub lanes_of : (x : ℕ) → x ≡ lanes (x % 65536) (x / 65536 % 65536) (x / 4294967296 % 65536) (x / 281474976710656)
lanes_of x = omega (arith, shr-shr x 16 16, shr-shr x 32 16)

pub record Lanes (x a b c d : ℕ) : Type 0 where
  pub first : x % 65536 ≡ a
  pub second : x / 65536 % 65536 ≡ b
  pub third : x / 4294967296 % 65536 ≡ c
  pub fourth : x / 281474976710656 ≡ d

pub lanes_at : (a b c d : ℕ) → a < 65536 → b < 65536 → c < 65536 → Lanes (lanes a b c d) a b c d
lanes_at a b c d ha hb hc =
    record { first = omega arith; second = omega arith; third = omega arith; fourth = omega arith }

abbrev pub mask_of : ℕ → ℕ → ℕ → ℕ → ℕ
mask_of h i j k = lanes (2 ^ 16 - 2 ^ h) (2 ^ 16 - 2 ^ i) (2 ^ 16 - 2 ^ j) (2 ^ 16 - 2 ^ k)

pub record Low (x h i j k : ℕ) : Type 0 where
  pub first : x % 65536 < 2 ^ h
  pub second : x / 65536 % 65536 < 2 ^ i
  pub third : x / 4294967296 % 65536 < 2 ^ j
  pub fourth : x / 281474976710656 < 2 ^ k

lanes_and : (a b c d p q r s : ℕ) → a < 2 ^ 16 → b < 2 ^ 16 → c < 2 ^ 16 → p < 2 ^ 16 → q < 2 ^ 16 → r < 2 ^ 16
    → bit_and (lanes a b c d) (lanes p q r s) ≡ lanes (bit_and a p) (bit_and b q) (bit_and c r) (bit_and d s)
lanes_and a b c d p q r s ha hb hc hp hq hr =
    and_block 16 ((d * 2 ^ 16 + c) * 2 ^ 16 + b) ((s * 2 ^ 16 + r) * 2 ^ 16 + q) a p ha hp
    ∙ rw (and_block 16 (d * 2 ^ 16 + c) (s * 2 ^ 16 + r) b q hb hq, and_block 16 d s c r hc hr)

-- one lane
module _ (n k : ℕ) (few : k ≤ 16) where
  lane_high : bit_and n (2 ^ 16 - 2 ^ k) ≡ n / 2 ^ k % 2 ^ (16 - k) * 2 ^ k
  lane_high = let e : 16 - k + k ≡ 16 = omega arith in rw e at (and_high n (16 - k) k)

  lane_low : n < 2 ^ k → bit_and n (2 ^ 16 - 2 ^ k) ≡ 0
  lane_low h = lane_high ∙ rw (without k n h, zero-mod (2 ^ (16 - k))) (zero-mul (2 ^ k))

  low_lane : n < 2 ^ 16 → bit_and n (2 ^ 16 - 2 ^ k) ≡ 0 → n < 2 ^ k
  low_lane h e =
      let all : n / 2 ^ k < 2 ^ (16 - k) = shr_lt (16 - k) k (let q : 16 - k + k ≡ 16 = omega arith in rw q h) in
      let z : n / 2 ^ k % 2 ^ (16 - k) ≡ 0 =
      sym (shl-shr _ k) ∙ ap (λ (v : ℕ). v / 2 ^ k) (sym lane_high ∙ e) ∙ zero-div (2 ^ k) in
      within k n (sym (mod-eq_of_lt all) ∙ z)

module _ (x h i j k : ℕ) (fits : x < 2 ^ 64) (fh : h ≤ 16) (fi : i ≤ 16) (fj : j ≤ 16) (fk : k ≤ 16) where
  masked : bit_and x (mask_of h i j k)
      ≡ lanes
      (bit_and (x % 65536) (2 ^ 16 - 2 ^ h))
      (bit_and (x / 65536 % 65536) (2 ^ 16 - 2 ^ i))
      (bit_and (x / 4294967296 % 65536) (2 ^ 16 - 2 ^ j))
      (bit_and (x / 281474976710656) (2 ^ 16 - 2 ^ k))
  masked =
      ap (λ (v : ℕ). bit_and v (mask_of h i j k)) (lanes_of x)
      ∙ lanes_and (x % 65536) (x / 65536 % 65536) (x / 4294967296 % 65536) (x / 281474976710656) (2 ^ 16 - 2 ^ h) (2 ^ 16 - 2 ^ i) (2 ^ 16 - 2 ^ j) (2 ^ 16 - 2 ^ k)
      (omega arith) (omega arith) (omega arith)
      (omega (arith, pow_pos h)) (omega (arith, pow_pos i)) (omega (arith, pow_pos j))

  pub clear_low : bit_and x (mask_of h i j k) ≡ 0 → Low x h i j k
  clear_low e =
      let z = sym masked ∙ e in
      record {
        first = low_lane (x % 65536) h fh (omega arith) (omega arith);
        second = low_lane (x / 65536 % 65536) i fi (omega arith) (omega arith);
        third = low_lane (x / 4294967296 % 65536) j fj (omega arith) (omega arith);
        fourth = low_lane (x / 281474976710656) k fk (omega arith) (omega arith);
      }

  pub low_clear : Low x h i j k → bit_and x (mask_of h i j k) ≡ 0
  low_clear l =
      masked
      ∙ rw (
        lane_low (x % 65536) h fh l.first,
        lane_low (x / 65536 % 65536) i fi l.second,
        lane_low (x / 4294967296 % 65536) j fj l.third,
        lane_low (x / 281474976710656) k fk l.fourth,
      )
