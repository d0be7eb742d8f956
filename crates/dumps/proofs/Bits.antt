-- Bits as characters, and the lines that they stand in.
--
--   spread_bits == eight bits spread over the bytes of a number
--   spread_fits == that number has 64 bits
--   bits_length == w bits are w characters
--   bit_put     == one bit more of those that are written one by one
--   scalar_line, vector_line == the line of a variable of one bit, and of several
--   mask_put    == sixteen bits, written as two runs of eight
use Prim.Native.Nat.{ℕ, zero, suc, ◌+◌, ◌-◌, ◌*◌, ◌/◌, ◌%◌, ◌^◌, ◌≤◌, ◌<◌}
use mathlib.Core.Path.{◌≡◌, refl, sym, ap, ◌∙◌}
use mathlib.Core.List.{List, [], ◌∷◌, ◌++◌}
use native.Mathlib.Omega.{arith}
use native.Mathlib.Nat.{div-one}
use native.Mathlib.Numerals.{add-one}
use borrow.Author.Tests.{ne_eqb}
use lib.Bits.{bit_and, and_le_r}
use lib.ListN.{length, set}
use lib.Seq.{sets}
use Rattle.words.specs.Words.{low_first}
use Rattle.words.proofs.Tables.{same_below}
use Rattle.waves.specs.Variables.{bits, change}
use Rattle.fields.proofs.Stores.{then_sets}
use Rattle.dumps.specs.Changed.{variable}

-- the arithmetic of `spread`
pub copies_fit : (b : ℕ) → b < 256 → b * 18049651735527937 + b % 2 * 9223372036854775808 < 2 ^ 64
copies_fit b h = let low : b % 2 ≤ 1 = omega arith in bounded b (b % 2) h low
  where
    bounded : (x y : ℕ) → x < 256 → y ≤ 1 → x * 18049651735527937 + y * 9223372036854775808 < 2 ^ 64
    bounded x y h l = omega arith

abbrev spread_of : ℕ → ℕ
spread_of b = bit_and ((b * 18049651735527937 + b % 2 * 9223372036854775808) / 128) 72340172838076673 + 3472328296227680304

pub spread_bits : (b : ℕ) → b < 256 → low_first 8 (spread_of b) ≡ bits 8 b
spread_bits = same_below 256 (λ b. low_first 8 (spread_of b)) (bits 8) refl

pub spread_fits : (b : ℕ) → spread_of b < 2 ^ 64
spread_fits b = omega (arith, and_le_r ((b * 18049651735527937 + b % 2 * 9223372036854775808) / 128) 72340172838076673)

module _ (k u : ℕ) where
  pub scalar_line : change (variable 1 k) u ≡ (48 + u % 2) ∷ k ∷ 10 ∷ []
  unfolding change
  scalar_line = rw div-one

  pub vector_line : (w : ℕ) → 2 ≤ w → change (variable w k) u ≡ 98 ∷ (bits w u ++ (32 ∷ k ∷ 10 ∷ []))
  unfolding change
  vector_line w h = rw (ne_eqb w 1 (λ e. omega arith))

pub bits_length : (w v : ℕ) → length (bits w v) ≡ w
bits_length zero v = refl
bits_length (suc w) v = ap suc (bits_length w v)

-- one bit, and then the rest
bits_more : (b : List ℕ) (i p v : ℕ) → 0 < i → sets (set b p (48 + v / 2 ^ (i - 1) % 2)) (p + 1) (bits (i - 1) v) ≡ sets b p (bits i v)
bits_more b zero p v h = absurd (omega arith)
bits_more b (suc i) p v h = let e : suc i - 1 ≡ i = omega arith in rw (e, add-one)

-- the bit at place i of w, and then those that follow
pub bit_put : (b c : List ℕ) (i w at v : ℕ) → i < w → sets b (at + i) (bits (w - i) v) ≡ c
    → sets (set b (at + i) (48 + v / 2 ^ (w - 1 - i) % 2)) (at + (i + 1)) (bits (w - (i + 1)) v) ≡ c
bit_put b c i w at v h e =
    let p : at + (i + 1) ≡ at + i + 1 = omega arith in
    let k : w - 1 - i ≡ w - i - 1 = omega arith in
    let r : w - (i + 1) ≡ w - i - 1 = omega arith in
    rw (p, k, r) (bits_more b (w - i) (at + i) v (omega arith) ∙ e)

-- a bit of a mask is a bit of one of its bytes
record Bits (u : ℕ) : Type 0 where
  h7 : u / 256 % 256 / 128 % 2 ≡ u / 32768 % 2
  h6 : u / 256 % 256 / 64 % 2 ≡ u / 16384 % 2
  h5 : u / 256 % 256 / 32 % 2 ≡ u / 8192 % 2
  h4 : u / 256 % 256 / 16 % 2 ≡ u / 4096 % 2
  h3 : u / 256 % 256 / 8 % 2 ≡ u / 2048 % 2
  h2 : u / 256 % 256 / 4 % 2 ≡ u / 1024 % 2
  h1 : u / 256 % 256 / 2 % 2 ≡ u / 512 % 2
  h0 : u / 256 % 256 / 1 % 2 ≡ u / 256 % 2
  l7 : u % 256 / 128 % 2 ≡ u / 128 % 2
  l6 : u % 256 / 64 % 2 ≡ u / 64 % 2
  l5 : u % 256 / 32 % 2 ≡ u / 32 % 2
  l4 : u % 256 / 16 % 2 ≡ u / 16 % 2
  l3 : u % 256 / 8 % 2 ≡ u / 8 % 2
  l2 : u % 256 / 4 % 2 ≡ u / 4 % 2
  l1 : u % 256 / 2 % 2 ≡ u / 2 % 2
  l0 : u % 256 / 1 % 2 ≡ u / 1 % 2

bits_of : (u : ℕ) → Bits u
bits_of u =
    record {
      h7 = omega arith;
      h6 = omega arith;
      h5 = omega arith;
      h4 = omega arith;
      h3 = omega arith;
      h2 = omega arith;
      h1 = omega arith;
      h0 = omega arith;
      l7 = omega arith;
      l6 = omega arith;
      l5 = omega arith;
      l4 = omega arith;
      l3 = omega arith;
      l2 = omega arith;
      l1 = omega arith;
      l0 = omega arith;
    }

pub sixteen : (u : ℕ) → bits 8 (u / 256 % 256) ++ bits 8 (u % 256) ≡ bits 16 u
sixteen u =
    let b = bits_of u in
    rw (b.h7, b.h6, b.h5, b.h4, b.h3, b.h2, b.h1, b.h0, b.l7, b.l6, b.l5, b.l4, b.l3, b.l2, b.l1, b.l0)

-- sixteen bits by two runs of eight
pub mask_put : (w v at : ℕ) (b c d : List ℕ) → w ≡ 16 → c ≡ sets b at (bits 8 (v / 256 % 256)) → d ≡ sets c (at + 8) (bits 8 (v % 256)) → d ≡ sets b at (bits w v)
mask_put w v at b c d n e f =
    then_sets b c d at (at + 8) (bits 8 (v / 256 % 256)) (bits 8 (v % 256)) e (omega arith) f
    ∙ ap (sets b at) (sixteen v ∙ ap (λ (k : ℕ). bits k v) (sym n))
