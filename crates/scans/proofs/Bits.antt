-- The bits of a value, one by one.
--
--   Reading s v i == the first i characters of s are bits, which write v
--   reading_on    == one character further
--   read_bad, read_whole == the two ends
--   bits_taken    == what stands after the characters of a value does not matter
use Rattle.std.proofs.Common.{◌≡◌, ℕ, zero, suc, ◌+◌, ◌-◌, ◌*◌, ◌^◌, ◌<◌, ◌≤◌, true, false, ◌&&◌, ◌||◌, eqb, List, [], ◌∷◌, length, get_or, take, drop, refl, ap, ◌∙◌, arith, pow-suc, add-one, drop-drop, ne_eqb, eq-eqb}
use Rattle.rules.proofs.Choice.{order}
use Rattle.waves.specs.Reading.{are_bits, binary, bits_in}
use Rattle.scans.proofs.Unknown.{first_there}

pub record Reading (s : List ℕ) (v i : ℕ) : Type 0 where
  pub bits : are_bits (length s) s ≡ are_bits (length s - i) (drop i s)
  pub number : binary 0 (length s) s ≡ binary v (length s - i) (drop i s)
  pub small : v < 2 ^ i

-- one character more, of the bits and of their number
bits_here : (k : ℕ) (s : List ℕ) (i : ℕ) → 0 < k → are_bits k (drop i s) ≡ ((eqb (get_or s i 0) 48 || eqb (get_or s i 0) 49) && are_bits (k - 1) (drop (i + 1) s))
unfolding are_bits
bits_here zero s i h = absurd (omega arith)
bits_here (suc k) s i h = let q : suc k - 1 ≡ k = omega arith in rw (q, first_there s i, drop-drop 1 i s)

number_here : (v k : ℕ) (s : List ℕ) (i : ℕ) → 0 < k → binary v k (drop i s) ≡ binary (v * 2 + (get_or s i 0 - 48)) (k - 1) (drop (i + 1) s)
unfolding binary
number_here v zero s i h = absurd (omega arith)
number_here v (suc k) s i h = let q : suc k - 1 ≡ k = omega arith in rw (q, first_there s i, drop-drop 1 i s)

is_bit : (b : ℕ) → 48 ≤ b → b ≤ 49 → (eqb b 48 || eqb b 49) ≡ true
is_bit b low high = order b 48 (λ l. rw (eq-eqb b 48 (omega arith))) (λ l. rw (ne_eqb b 48 (λ x. omega arith), eq-eqb b 49 (omega arith)))

no_bit : (b : ℕ) → (48 ≤ b → b ≤ 49 → ⊥) → (eqb b 48 || eqb b 49) ≡ false
no_bit b h = rw (ne_eqb b 48 (λ x. h (omega arith) (omega arith)), ne_eqb b 49 (λ x. h (omega arith) (omega arith)))

module _ (s : List ℕ) (v i : ℕ) (e : Reading s v i) where
  module _ (more : i < length s) where
    pub reading_on : 48 ≤ get_or s i 0 → get_or s i 0 ≤ 49 → Reading s (v * 2 + (get_or s i 0 - 48)) (i + 1)
    reading_on low high =
        let k : length s - i - 1 ≡ length s - (i + 1) = omega arith in
        let p = pow-suc 2 i in
        record {
          bits = e.bits ∙ bits_here (length s - i) s i (omega arith) ∙ rw (is_bit (get_or s i 0) low high, k);
          number = e.number ∙ number_here v (length s - i) s i (omega arith) ∙ rw k;
          small = rw (add-one i) (omega (arith, e.small));
        }

    pub read_bad : (r : ℕ) → (48 ≤ get_or s i 0 → get_or s i 0 ≤ 49 → ⊥) → r ≡ 2 ^ length s → r ≡ bits_in (length s) s
    unfolding bits_in
    read_bad r bad h =
        let none : are_bits (length s) s ≡ false = e.bits ∙ bits_here (length s - i) s i (omega arith) ∙ rw (no_bit (get_or s i 0) bad) in
        h ∙ rw none

  pub read_whole : i ≡ length s → v ≡ bits_in (length s) s
  unfolding bits_in are_bits binary
  read_whole h = go (length s - i) (omega arith) e.bits e.number
    where
      go : (j : ℕ) → j ≡ 0 → are_bits (length s) s ≡ are_bits j (drop i s) → binary 0 (length s) s ≡ binary v j (drop i s) → v ≡ bits_in (length s) s
      go zero k x y = rw (x, y)
      go (suc j) k x y = absurd (omega arith)

bits_kept : (w : ℕ) (s : List ℕ) → are_bits w (take w s) ≡ are_bits w s
unfolding are_bits
bits_kept zero s = refl
bits_kept (suc w) [] = refl
bits_kept (suc w) (b ∷ s) = ap (λ x. (eqb b 48 || eqb b 49) && x) (bits_kept w s)

number_kept : (a w : ℕ) (s : List ℕ) → binary a w (take w s) ≡ binary a w s
unfolding binary
number_kept a zero s = refl
number_kept a (suc w) [] = refl
number_kept a (suc w) (b ∷ s) = number_kept (a * 2 + (b - 48)) w s

pub bits_taken : (w : ℕ) (s : List ℕ) → bits_in w (take w s) ≡ bits_in w s
unfolding bits_in
bits_taken w s = rw (bits_kept w s, number_kept 0 w s)
