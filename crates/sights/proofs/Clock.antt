-- The line of a time, read digit by digit, or as one number.
--
--   counting_start, counting_on == the position after the first digit, and one further
--   line_there == the line ends there
--   word_after == what stands after a line of eight bytes
use Rattle.std.proofs.Common.{◌≡◌, ℕ, zero, suc, ◌+◌, ◌-◌, ◌*◌, ◌/◌, ◌%◌, ◌^◌, ◌<◌, ◌≤◌, List, [], ◌∷◌, ◌++◌, length, get_or, take, drop, sym, ap, ◌∙◌, append-nil, pow-suc, add-one, arith, length-drop, take-append-drop, get_or-drop, drop-cons, take-suc, drop-drop, le-ltb, lt-ltb}
use native.Mathlib.Nat.{pow-le-pow_right}
use lib.Seq.{append_snoc}
use Rattle.formats.specs.Digits.{decimal_before}
use Rattle.words.specs.Words.{low_first, number_low}
use Rattle.words.proofs.Words.{Bytes, slots_take, bytes_of_number, part_rest}
use Rattle.waves.specs.Steps.{time_line}
use Rattle.sights.specs.Clock.{Counting}

-- the digits of a number below ten, and of one above
one_digit_lem : (j v : ℕ) (l : List ℕ) → 1 ≤ j → v < 10 → decimal_before j v l ≡ (48 + v) ∷ l
unfolding decimal_before
one_digit_lem zero v l h k = absurd (omega arith)
one_digit_lem (suc j) v l h k = rw (lt-ltb v 10 k)

more_digits : (j v d : ℕ) (l : List ℕ) → 1 ≤ j → 0 < v → d ≤ 9 → decimal_before j (v * 10 + d) l ≡ decimal_before (j - 1) v ((48 + d) ∷ l)
unfolding decimal_before
more_digits zero v d l h k f = absurd (omega arith)
more_digits (suc j) v d l h k f =
    let a : (v * 10 + d) / 10 ≡ v = omega arith in
    let b : (v * 10 + d) % 10 ≡ d = omega arith in
    let c : suc j - 1 ≡ j = omega arith in
    rw (le-ltb (v * 10 + d) 10 (omega arith), a, b, c)

-- the digits before i, and one more
taken_one : (s : List ℕ) (i d : ℕ) → 1 ≤ i → i < length s → get_or s i 0 ≡ 48 + d → take i (drop 1 s) ≡ take (i - 1) (drop 1 s) ++ ((48 + d) ∷ [])
taken_one s i d h k e =
    let inside : i - 1 < length (drop 1 s) = omega (arith, length-drop 1 s) in
    let a : suc (i - 1) ≡ i = omega arith in
    let b : 1 + (i - 1) ≡ i = omega arith in
    rw (a, get_or-drop 1 s (i - 1) 0, b, e) at (take-suc (drop 1 s) (i - 1) 0 inside)

module _ (s : List ℕ) (room : 8 ≤ length s) where
  pub counting_start : (b : ℕ) → get_or s 0 0 ≡ 35 → get_or s 1 0 ≡ b → 49 ≤ b → b ≤ 57 → Counting s (b - 48) 2
  counting_start b opens here low high =
      let digit : get_or s 1 0 ≡ 48 + (b - 48) = omega arith in
      record {
        opens = opens;
        from = omega arith;
        near = omega arith;
        some = omega arith;
        small = omega arith;
        few = omega arith;
        text = λ j l h.
            one_digit_lem j (b - 48) l h (omega arith) ∙ ap (λ m. m ++ l) (sym (taken_one s 1 (b - 48) (omega arith) (omega arith) digit));
      }

  module _ (v i : ℕ) (e : Counting s v i) (more : i < 8) where
    pub counting_on : (d : ℕ) → get_or s i 0 ≡ 48 + d → d ≤ 9 → Counting s (v * 10 + d) (i + 1)
    counting_on d f h =
        let a : i + 1 - 1 ≡ i = omega arith in
        let b : suc (i - 1) ≡ i = omega arith in
        let p : 10 ^ i ≡ 10 ^ (i - 1) * 10 = rw b at (pow-suc 10 (i - 1)) in
        let most : 10 ^ i ≤ 10 ^ 7 = pow-le-pow_right {n = 10} (omega arith) {i = i} {j = 7} (omega arith) in
        let below : v * 10 + d < 10 ^ i = omega (arith, e.small) in
        record {
          opens = e.opens;
          from = omega arith;
          near = omega arith;
          some = omega (arith, e.some);
          small = rw a below;
          few = omega arith;
          text = λ j l k.
              more_digits j v d l (omega arith) e.some h
              ∙ e.text (j - 1) ((48 + d) ∷ l) (omega arith)
              ∙ rw (a, taken_one s i d (omega arith) (omega arith) (omega arith)) (sym (append_snoc (take (i - 1) (drop 1 s)) (48 + d) l));
        }

    pub line_there : (t : ℕ) → v ≡ t → get_or s i 0 ≡ 10 → s ≡ time_line t ++ drop (i + 1) s
    unfolding time_line
    line_there t same ends =
        let digits : decimal_before 10 t [] ≡ take (i - 1) (drop 1 s) = rw (same, append-nil) at (e.text 10 [] (omega arith)) in
        let first : s ≡ 35 ∷ drop 1 s = rw e.opens at (drop-cons s 0 0 (omega arith)) in
        let last : drop i s ≡ 10 ∷ drop (i + 1) s = rw (ends, ← add-one i) at (drop-cons s i 0 (omega arith)) in
        let a : 1 + (i - 1) ≡ i = omega arith in
        let rest : drop 1 s ≡ take (i - 1) (drop 1 s) ++ (10 ∷ drop (i + 1) s) =
        sym (take-append-drop (i - 1) (drop 1 s)) ∙ ap (λ m. take (i - 1) (drop 1 s) ++ m) (rw a at (drop-drop (i - 1) 1 s) ∙ last) in
        first ∙ ap (λ m. 35 ∷ m) (rest ∙ rw digits (sym (append_snoc (take (i - 1) (drop 1 s)) 10 (drop (i + 1) s))))

pub word_after : (t w r : ℕ) (s : List ℕ) → Bytes s → length s ≡ 128 → w ≡ number_low 8 s 0 → low_first 8 r ≡ time_line t → w ≡ r → s ≡ time_line t ++ take 120 (drop 8 s)
word_after t w r s bytes size read text same =
    let first : take 8 s ≡ time_line t = slots_take s 8 0 (omega arith) ∙ sym (bytes_of_number 8 s 0 bytes) ∙ ap (low_first 8) (sym read ∙ same) ∙ text in
    let last : take 120 (drop 8 s) ≡ drop 8 s = rw size at (part_rest 8 s) in
    sym (take-append-drop 8 s) ∙ rw (first, last)
