-- The line of a time.
--
--   at_most_six == the time of a cycle has six digits at most
--   short_put   == the line, written digit by digit
--   long_line   == the line of a time of six digits, as one number
--   long_fits   == that number has 64 bits
--   long_put    == that line, written as one number
use Prim.Native.Nat.{ℕ, zero, suc, ◌+◌, ◌/◌, ◌%◌, ◌^◌, ◌≤◌, ◌<◌}
use mathlib.Core.Path.{◌≡◌, refl, ap, ◌∙◌}
use mathlib.Core.List.{List, [], ◌∷◌, ◌++◌}
use native.Mathlib.Omega.{arith}
use native.Mathlib.Nat.{pow-suc, div-lt_iff_lt-mul}
use borrow.Author.Tests.{lt-ltb, le-ltb}
use lib.Dec.{lit<}
use lib.ListN.{length, set, length-append}
use lib.Seq.{sets}
use Rattle.rules.specs.Codes.{most_cycles}
use Rattle.rules.proofs.Choice.{order}
use Rattle.words.specs.Words.{low_first, number_low}
use Rattle.words.proofs.Words.{none_bytes, one_more, again_bytes}
use Rattle.formats.specs.Digits.{decimal, decimal_before}
use Rattle.waves.specs.Steps.{time_line}
use Rattle.fields.proofs.Stores.{set_first}
use Rattle.dumps.specs.Changed.{Put}
use Rattle.dumps.specs.Clock.{six_of}

few_digits : (j k v : ℕ) (l : List ℕ) → v < 10 ^ suc j → length (decimal_before k v l) ≤ suc j + length l
unfolding decimal_before
few_digits j zero v l h = omega arith
few_digits zero (suc k) v l h = rw (lt-ltb v 10 h) (omega arith)
few_digits (suc j) (suc k) v l h =
    order 10 v
    (λ more. rw (le-ltb v 10 more) (omega (arith, few_digits j k (v / 10) ((48 + v % 10) ∷ l) ((div-lt_iff_lt-mul (lit< tt)).1 (rw pow-suc at h)))))
    (λ last. rw (lt-ltb v 10 last) (omega arith))

pub at_most_six : (t : ℕ) → t < most_cycles → length (decimal t) ≤ 6
at_most_six t h = few_digits 5 10 t [] h

pub short_put : (t : ℕ) (b c : List ℕ) (r : ℕ) → t < most_cycles → r ≡ 1 + length (decimal t) + 1 → c ≡ sets b 1 (decimal t ++ (10 ∷ []))
    → Put b 0 (time_line t) 8 r (set c 0 35)
unfolding time_line
short_put t b c r h n e =
    record {
      after = simp length-append (omega arith);
      within = omega (arith, at_most_six t h);
      bytes = set_first b c 0 35 (decimal t ++ (10 ∷ [])) e;
    }

-- the line `#000000`
abbrev zeros : ℕ
zeros = 734139722786418723

six_bytes : (u v w x y z : ℕ) → u < 10 → v < 10 → w < 10 → x < 10 → y < 10 → z < 10
    → low_first 8 (six_of u v w x y z + zeros) ≡ 35 ∷ (48 + u) ∷ (48 + v) ∷ (48 + w) ∷ (48 + x) ∷ (48 + y) ∷ (48 + z) ∷ 10 ∷ []
six_bytes u v w x y z hu hv hw hx hy hz =
    let l : List ℕ = 35 ∷ (48 + u) ∷ (48 + v) ∷ (48 + w) ∷ (48 + x) ∷ (48 + y) ∷ (48 + z) ∷ 10 ∷ [] in
    let sum : six_of u v w x y z + zeros ≡ number_low 8 l 0 = omega arith in
    ap (low_first 8) sum
    ∙ again_bytes 8 l
    (one_more (omega arith) (one_more (omega arith) (one_more (omega arith) (one_more (omega arith) (one_more (omega arith) (one_more (omega arith) (one_more (omega arith) (one_more (omega arith) none_bytes))))))))
    refl

six_fits : (u v w x y z : ℕ) → u < 10 → v < 10 → w < 10 → x < 10 → y < 10 → z < 10 → six_of u v w x y z + zeros < 2 ^ 64
six_fits u v w x y z hu hv hw hx hy hz = omega arith

-- the digits of a number from its two halves
halves : (t : ℕ)
    → (t / 1000 / 100 ≡ t / 100000)
    × (t / 1000 / 10 ≡ t / 10000)
    × (t % 1000 / 100 ≡ t / 100 % 10)
    × (t % 1000 / 10 % 10 ≡ t / 10 % 10)
    × (t % 1000 % 10 ≡ t % 10)
halves t = (omega arith, omega arith, omega arith, omega arith, omega arith)

module _ (t : ℕ) (few : 100000 ≤ t) (many : t < most_cycles) where
  -- the digits from the first on, as the definition finds them from the last on
  six_digits : decimal t ≡ (48 + t / 100000) ∷ (48 + t / 10000 % 10) ∷ (48 + t / 1000 % 10) ∷ (48 + t / 100 % 10) ∷ (48 + t / 10 % 10) ∷ (48 + t % 10) ∷ []
  unfolding decimal_before
  six_digits =
      let e2 : t / 10 / 10 ≡ t / 100 = omega arith in
      let e3 : t / 100 / 10 ≡ t / 1000 = omega arith in
      let e4 : t / 1000 / 10 ≡ t / 10000 = omega arith in
      let e5 : t / 10000 / 10 ≡ t / 100000 = omega arith in
      rw (le-ltb t 10 (omega arith), le-ltb (t / 10) 10 (omega arith), e2, le-ltb (t / 100) 10 (omega arith), e3, le-ltb (t / 1000) 10 (omega arith), e4, le-ltb (t / 10000) 10 (omega arith), e5, lt-ltb (t / 100000) 10 (omega arith))

  pub long_line : (r : ℕ)
      → r ≡ six_of (t / 1000 / 100) (t / 1000 / 10 % 10) (t / 1000 % 10) (t % 1000 / 100) (t % 1000 / 10 % 10) (t % 1000 % 10)
      → low_first 8 (r + zeros) ≡ time_line t
  unfolding time_line
  long_line r e =
      let h = halves t in
      rw (e, h.0, h.1, h.2, h.3, h.4, six_digits)
      (six_bytes _ _ _ _ _ _ (omega arith) (omega arith) (omega arith) (omega arith) (omega arith) (omega arith))

  digits_fit : six_of (t / 1000 / 100) (t / 1000 / 10 % 10) (t / 1000 % 10) (t % 1000 / 100) (t % 1000 / 10 % 10) (t % 1000 % 10) + zeros < 2 ^ 64
  digits_fit = six_fits _ _ _ _ _ _ (omega arith) (omega arith) (omega arith) (omega arith) (omega arith) (omega arith)

  pub long_fits : (r : ℕ)
      → r ≡ six_of (t / 1000 / 100) (t / 1000 / 10 % 10) (t / 1000 % 10) (t % 1000 / 100) (t % 1000 / 10 % 10) (t % 1000 % 10)
      → r + zeros < 2 ^ 64
  long_fits r e = rw e digits_fit

pub long_put : (t w : ℕ) (b c : List ℕ) → low_first 8 w ≡ time_line t → c ≡ sets b 0 (low_first 8 w) → Put b 0 (time_line t) 8 8 c
long_put t w b c e f = rw (← e) (record { after = refl; within = omega arith; bytes = f })
