-- Characters that write a number, the highest bit first.
--
--   mask_bits == sixteen characters are eight and eight
--   bits_more == one character more
--   some_more, few_more == the same of the first characters of a text, and how large their number is
use Rattle.std.proofs.Common.{◌≡◌, ℕ, zero, suc, ◌+◌, ◌-◌, ◌*◌, ◌/◌, ◌%◌, ◌^◌, ◌<◌, ◌≤◌, List, [], ◌∷◌, ◌++◌, length, get_or, take, drop, sym, ap, ◌∙◌, arith, pow-suc, add-one, take-suc, take-append-drop, div-one}
use native.Mathlib.Nat.{div-div-eq-div-mul}
use Rattle.words.specs.Words.{low_first, number_low}
use Rattle.words.proofs.Words.{Bytes, slots_take, bytes_of_number, part_rest, number_part}
use Rattle.waves.specs.Variables.{bits}
use Rattle.dumps.proofs.Bits.{sixteen}

-- the eight characters from p on, as one number
eight_there : (s : List ℕ) (p : ℕ) → Bytes s → p + 8 ≤ length s → low_first 8 (number_low 8 s p) ≡ take 8 (drop p s)
eight_there s p bytes room = bytes_of_number 8 s p bytes ∙ sym (slots_take s 8 p room)

pub mask_bits : (s : List ℕ) (v w h l : ℕ) → Bytes s → length s ≡ 16
    → v ≡ number_low 8 s 0 → low_first 8 v ≡ bits 8 h → h < 256
    → w ≡ number_low 8 (take (length s - 8) (drop 8 s)) 0 → low_first 8 w ≡ bits 8 l → l < 256
    → s ≡ bits 16 (h * 256 + l)
mask_bits s v w h l bytes size ev eh hh ew el hl =
    let first : take 8 s ≡ bits 8 h = sym (eight_there s 0 bytes (omega arith)) ∙ rw (← ev) eh in
    let last : take 8 (drop 8 s) ≡ bits 8 l = sym (eight_there s 8 bytes (omega arith)) ∙ rw (← number_part 8 8 s 0, ← ew) el in
    let all : take 8 (drop 8 s) ≡ drop 8 s = let k : length s - 8 ≡ 8 = omega arith in rw k at (part_rest 8 s) in
    let u : (h * 256 + l) / 256 % 256 ≡ h = omega arith in
    let x : (h * 256 + l) % 256 ≡ l = omega arith in
    sym (take-append-drop 8 s) ∙ ap (λ k. take 8 s ++ k) (sym all ∙ last) ∙ ap (λ k. k ++ bits 8 l) first
    ∙ rw (u, x) at (sixteen (h * 256 + l))

pub bits_more : (i v d : ℕ) → d ≤ 1 → bits (suc i) (v * 2 + d) ≡ bits i v ++ ((48 + d) ∷ [])
bits_more zero v d h = let e : (v * 2 + d) / 1 % 2 ≡ d = rw div-one (omega arith) in rw e
bits_more (suc i) v d h =
    let k : 2 ^ suc i ≡ 2 * 2 ^ i = pow-suc 2 i ∙ omega arith in
    let a : (v * 2 + d) / 2 ≡ v = omega arith in
    let e : (v * 2 + d) / 2 ^ suc i ≡ v / 2 ^ i = rw (k, ← div-div-eq-div-mul, a) in
    rw e (ap (λ k. (48 + v / 2 ^ i % 2) ∷ k) (bits_more i v d h))

module _ (s : List ℕ) (i v b : ℕ) (inside : i < length s) (here : get_or s i 0 ≡ b) (low : 48 ≤ b) (high : b ≤ 49) where
  pub some_more : take i s ≡ bits i v → take (i + 1) s ≡ bits (i + 1) (v * 2 + (b - 48))
  some_more e =
      let d : b ≡ 48 + (b - 48) = omega arith in
      rw (add-one i) (take-suc s i 0 inside ∙ rw (here, e) (ap (λ k. bits i v ++ (k ∷ [])) d ∙ sym (bits_more i v (b - 48) (omega arith))))

  pub few_more : v < 2 ^ i → v * 2 + (b - 48) < 2 ^ (i + 1)
  few_more h = let p = pow-suc 2 i in rw (add-one i) (omega arith)
