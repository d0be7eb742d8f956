-- Numbers in bits, the highest first: what is written reads back, and what is read writes back.
--
--   bits_length      == w bits are w bytes
--   bits_plain       == none of them is LF
--   is_bit b, bit_is == a byte is '0' or '1'
--   bits_in_lem      == the number that w bits wrote reads back, whatever follows them
--   bits_of          == a number that was read in w characters, each a bit, writes back as those characters
use Prim.Native.Nat.{ℕ, zero, suc, ◌+◌, ◌-◌, ◌*◌, ◌/◌, ◌%◌, ◌^◌, ◌≤◌, ◌<◌}
use mathlib.Core.Path.{◌≡◌, refl, sym, ◌∙◌, ap, ap₂}
use mathlib.Core.Bool.{Bool, true, ◌||◌, false≢true}
use mathlib.Core.List.{List, [], ◌∷◌, ◌++◌}
use native.Mathlib.Nat.{div-eq_of_lt}
use native.Mathlib.Numerals.{add-one}
use native.Mathlib.Omega.{arith}
use borrow.Author.Tests.{eqb-true, eqb-false, eq-eqb}
use lib.Dec.{eqb}
use lib.Pow.{shr-shr}
use lib.ListN.{length, take}
use Rattle.rules.proofs.Choice.{cond_elim, either, and_left, and_right, and_both}
use Rattle.formats.proofs.Ends.{Plain}
use Rattle.waves.specs.Variables.{bits}
use Rattle.waves.specs.Reading.{are_bits, binary, bits_in}

pub bits_length : (w v : ℕ) → length (bits w v) ≡ w
bits_length zero v = refl
bits_length (suc w) v = ap suc (bits_length w v)

pub bits_plain : (w v : ℕ) → Plain (bits w v)
bits_plain zero v = tt
bits_plain (suc w) v = (λ e. omega arith, bits_plain w v)

abbrev pub is_bit : ℕ → Bool
is_bit b = eqb b 48 || eqb b 49

pub bit_is : (b : ℕ) → 48 ≤ b → b ≤ 49 → is_bit b ≡ true
bit_is b h k =
    either (eqb b 48) (λ e. rw e) (λ e. rw e (eq-eqb b 49 (let other = eqb-false b 48 e in omega arith)))

bit_bounds : (b : ℕ) → is_bit b ≡ true → (48 ≤ b) × (b ≤ 49)
bit_bounds b =
    either (eqb b 48)
    (λ zero e. omega (arith, eqb-true b 48 zero))
    (λ other. rw other (λ e. omega (arith, eqb-true b 49 e)))

-- one more bit is a half
halved : (v w : ℕ) → v / 2 ^ suc w ≡ v / 2 ^ w / 2
halved v w = ap (λ k. v / 2 ^ k) (sym (add-one w)) ∙ sym (shr-shr v w 1)

bits_are : (w v : ℕ) (r : List ℕ) → are_bits w (bits w v ++ r) ≡ true
unfolding are_bits
bits_are zero v r = refl
bits_are (suc w) v r = and_both (bit_is (48 + v / 2 ^ w % 2) (omega arith) (omega arith)) (bits_are w v r)

-- the bits after the number that stands above them
binary_bits : (w v : ℕ) (r : List ℕ) → binary (v / 2 ^ w) w (bits w v ++ r) ≡ v
unfolding binary
binary_bits zero v r = omega arith
binary_bits (suc w) v r =
    ap (λ a. binary a w (bits w v ++ r)) (omega (arith, halved v w)) ∙ binary_bits w v r

-- what was read above w bits stands above them
binary_above : (w a : ℕ) (s : List ℕ) → are_bits w s ≡ true → binary a w s / 2 ^ w ≡ a
unfolding are_bits binary
binary_above zero a s e = omega arith
binary_above (suc w) a [] e = absurd (false≢true e)
binary_above (suc w) a (b ∷ s) e =
    let bound = bit_bounds b (and_left (is_bit b) (are_bits w s) e) in
    let read : ℕ = binary (a * 2 + (b - 48)) w s in
    let above : read / 2 ^ w ≡ a * 2 + (b - 48) = binary_above w (a * 2 + (b - 48)) s (and_right (is_bit b) (are_bits w s) e) in
    omega (arith, halved read w)

bits_binary : (w a : ℕ) (s : List ℕ) → are_bits w s ≡ true → bits w (binary a w s) ≡ take w s
unfolding are_bits binary
bits_binary zero a s e = refl
bits_binary (suc w) a [] e = absurd (false≢true e)
bits_binary (suc w) a (b ∷ s) e =
    let bound = bit_bounds b (and_left (is_bit b) (are_bits w s) e) in
    let are : are_bits w s ≡ true = and_right (is_bit b) (are_bits w s) e in
    ap₂ ◌∷◌ (omega (arith, binary_above w (a * 2 + (b - 48)) s are)) (bits_binary w (a * 2 + (b - 48)) s are)

pub bits_in_lem : (w v : ℕ) (r : List ℕ) → v < 2 ^ w → bits_in w (bits w v ++ r) ≡ v
unfolding bits_in
bits_in_lem w v r h = rw (bits_are w v r, ← div-eq_of_lt h) (binary_bits w v r)

pub bits_of : (w : ℕ) (s : List ℕ) → bits_in w s < 2 ^ w → bits w (bits_in w s) ≡ take w s
unfolding bits_in
bits_of w s =
    cond_elim (λ v. v < 2 ^ w → bits w v ≡ take w s) (are_bits w s)
    (λ are h. bits_binary w 0 s are)
    (λ none h. absurd (omega arith))
