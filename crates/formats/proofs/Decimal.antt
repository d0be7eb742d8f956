-- Decimal digits.
--
--   digit_is, digit_bounds == the decimal digits are the ten bytes from '0' on
--   one_digit_lem, two_digits_lem == what a number below 10, and one below 100, is written as
--   decimal_not   == no byte of a decimal is below '0'
--   in_decimal    == a number below 10 ^ 10 stands in decimal, with no leading zero, and reads back
--   number_before == two such numbers before the same byte below '0', in equal lines, are the same
use Prim.Native.Nat.{ℕ, zero, suc, ◌+◌, ◌/◌, ◌%◌, ◌^◌, ◌≤◌, ◌<◌}
use mathlib.Core.Path.{◌≡◌, sym, ◌∙◌, ap}
use mathlib.Core.Bool.{true}
use mathlib.Core.List.{List, [], ◌∷◌, ◌++◌}
use native.Mathlib.Omega.{arith}
use native.Mathlib.Nat.{div-lt_iff_lt-mul, pow-suc}
use borrow.Author.Tests.{leb-true, lt-ltb, le-ltb, le-leb}
use lib.Dec.{leb, lit<}
use lib.ListN.{length, get_or}
use Rattle.rules.proofs.Choice.{and_left, and_right, and_both}
use Rattle.formats.specs.Digits.{decimal_before, decimal}
use Rattle.formats.specs.Headers.{is_decimal}
use Rattle.formats.specs.Promises.{Each, read_on, InDecimal}
use Rattle.formats.proofs.Bytes.{below, Not, each_map, part_at}

abbrev pub Digit : ℕ → Type 0
Digit b = is_decimal b ≡ true

pub digit_is : (d : ℕ) → d < 10 → Digit (48 + d)
digit_is d h = and_both (le-leb 48 (48 + d) (omega arith)) (le-leb (48 + d) 57 (omega arith))

pub digit_bounds : (b : ℕ) → Digit b → (48 ≤ b) × (b ≤ 57)
digit_bounds b e = (leb-true 48 b (and_left (leb 48 b) (leb b 57) e), leb-true b 57 (and_right (leb 48 b) (leb b 57) e))

digits_before : (k v : ℕ) (l : List ℕ) → Each Digit l → Each Digit (decimal_before k v l)
unfolding decimal_before
digits_before zero v l h = h
digits_before (suc k) v l h =
    below (λ m. Each Digit m) v 10
    (λ one. (digit_is v one, h))
    (λ more. digits_before k (v / 10) ((48 + v % 10) ∷ l) (digit_is (v % 10) (omega arith), h))

abbrev Sized : ℕ → List ℕ → List ℕ → Type 0
Sized k l m = (length l < length m) × (length m ≤ suc k + length l)

-- of k + 1 digits at most, at least one stands before l
sized : (k v : ℕ) (l : List ℕ) → Sized k l (decimal_before (suc k) v l)
unfolding decimal_before
sized zero v l =
    below (Sized zero l) v 10 {x = (48 + v) ∷ l} {y = (48 + v % 10) ∷ l} (λ one. omega arith) (λ more. omega arith)
sized (suc k) v l =
    below (Sized (suc k) l) v 10 {x = (48 + v) ∷ l}
    (λ one. omega arith)
    (λ more. omega (arith, sized k (v / 10) ((48 + v % 10) ∷ l)))

-- a tenth of a number of k + 1 digits has k
tenth : (k v : ℕ) → v < 10 ^ suc k → v / 10 < 10 ^ k
tenth k v h = (div-lt_iff_lt-mul (lit< tt)).1 (rw pow-suc at h)

leads : (k v : ℕ) (l : List ℕ) → 0 < v → v < 10 ^ k → 48 < get_or (decimal_before k v l) 0 0
unfolding decimal_before
leads zero v l some h = absurd (omega arith)
leads (suc k) v l some h =
    below (λ m. 48 < get_or m 0 0) v 10
    (λ one. omega arith)
    (λ more. leads k (v / 10) ((48 + v % 10) ∷ l) (omega arith) (tenth k v h))

reads_back : (k v : ℕ) (l : List ℕ) → v < 10 ^ k → read_on 0 (decimal_before k v l) ≡ read_on v l
unfolding decimal_before read_on
reads_back zero v l h = ap (λ a. read_on a l) (omega arith)
reads_back (suc k) v l h =
    below (λ m. read_on 0 m ≡ read_on v l) v 10
    (λ one. ap (λ a. read_on a l) (omega arith))
    (λ more. reads_back k (v / 10) ((48 + v % 10) ∷ l) (tenth k v h) ∙ ap (λ a. read_on a l) (omega arith))

pub one_digit_lem : (v : ℕ) → v < 10 → decimal v ≡ (48 + v) ∷ []
unfolding decimal_before
one_digit_lem v h = rw (lt-ltb v 10 h)

pub two_digits_lem : (v : ℕ) → 10 ≤ v → v < 100 → decimal v ≡ (48 + v / 10) ∷ (48 + v % 10) ∷ []
unfolding decimal_before
two_digits_lem v h k = rw (le-ltb v 10 h, lt-ltb (v / 10) 10 (omega arith))

decimal_digits : (v : ℕ) → Each Digit (decimal v)
decimal_digits v = digits_before 10 v [] tt

pub decimal_not : (c v : ℕ) → c < 48 → Each (Not c) (decimal v)
decimal_not c v h = each_map (λ b d e. omega (arith, digit_bounds b d)) (decimal v) (decimal_digits v)

pub in_decimal : (v : ℕ) → v < 10 ^ 10 → InDecimal v (decimal v)
unfolding read_on
in_decimal v h =
    record {
      digits = decimal_digits v;
      some = (sized 9 v []).0;
      few = (sized 9 v []).1;
      zero_alone = λ e. rw e (one_digit_lem 0 (omega arith));
      no_leading_zero = λ some e. omega (arith, leads 10 v [] some h);
      reads = reads_back 10 v [] h;
    }

decimal_same : (v w : ℕ) → v < 10 ^ 10 → w < 10 ^ 10 → decimal v ≡ decimal w → v ≡ w
decimal_same v w h k e =
    sym (in_decimal v h).reads ∙ ap (read_on 0) e ∙ (in_decimal w k).reads

pub number_before : (c t u : ℕ) (x y : List ℕ) → c < 48 → t < 10 ^ 10 → u < 10 ^ 10
    → decimal t ++ (c ∷ x) ≡ decimal u ++ (c ∷ y) → (t ≡ u) × (x ≡ y)
number_before c t u x y h ht hu e =
    let p = part_at c (decimal t) (decimal u) x y (decimal_not c t h) (decimal_not c u h) e in
    (decimal_same t u ht hu p.0, p.1)
