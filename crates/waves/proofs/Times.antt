-- The line of the time.
--
--   time_parts  == the line is `#`, the digits and LF, before whatever follows it
--   time_plain  == nothing in it is LF but its end
--   time_length == of a time below 1,000,000 it has at most 8 bytes
--   time_is_lem == it writes its time
--   time_right  == which is then not another number
--   time_below  == a time that is not full is below 1,000,000
use Prim.Native.Nat.{ℕ, zero, suc, ◌+◌, ◌/◌, ◌%◌, ◌^◌, ◌≤◌, ◌<◌}
use mathlib.Core.Path.{◌≡◌, sym, ◌∙◌, ap}
use mathlib.Core.Bool.{true, false, and-true, and-false}
use mathlib.Core.List.{List, [], ◌∷◌, ◌++◌, append_assoc}
use native.Mathlib.Nat.{div-lt_iff_lt-mul, pow-suc}
use native.Mathlib.Omega.{arith}
use borrow.Author.Tests.{leb-false, lt-leb}
use lib.Dec.{leb, lit<}
use lib.ListN.{length, length-append}
use lib.Seq.{get_or_at}
use Rattle.rules.specs.Codes.{most_cycles}
use Rattle.rules.proofs.Choice.{and_both}
use Rattle.formats.specs.Digits.{lf, decimal_before, decimal}
use Rattle.formats.proofs.Bytes.{below}
use Rattle.formats.proofs.Ends.{Plain, decimal_plain}
use Rattle.waves.specs.Steps.{hash, time_line}
use Rattle.waves.specs.Reading.{has_time, time_is, wrong_time, full_time}
use Rattle.waves.proofs.Begins.{begins_append}

pub time_parts : (t : ℕ) (r : List ℕ) → time_line t ++ r ≡ (hash ∷ decimal t) ++ (lf ∷ r)
unfolding time_line
time_parts t r = ap (λ l. hash ∷ l) (append_assoc (decimal t) (lf ∷ []) r)

pub time_plain : (t : ℕ) → Plain (hash ∷ decimal t)
time_plain t = (λ e. omega arith, decimal_plain t)

-- a number below 10 ^ (j + 1) has at most j + 1 digits
few_digits : (k j v : ℕ) (l : List ℕ) → j ≤ k → v < 10 ^ suc j → length (decimal_before (suc k) v l) ≤ suc j + length l
unfolding decimal_before
few_digits k zero v l h small =
    below (λ m. length m ≤ 1 + length l) v 10 {x = (48 + v) ∷ l} (λ one. omega arith) (λ more. absurd (omega arith))
few_digits zero (suc j) v l h small = absurd (omega arith)
few_digits (suc k) (suc j) v l h small =
    let tenth : v / 10 < 10 ^ suc j = (div-lt_iff_lt-mul (lit< tt)).1 (rw pow-suc at small) in
    below (λ m. length m ≤ suc (suc j) + length l) v 10 {x = (48 + v) ∷ l}
    (λ one. omega arith)
    (λ more. omega (arith, few_digits k j (v / 10) ((48 + v % 10) ∷ l) (omega arith) tenth))

pub time_length : (t : ℕ) → t < most_cycles → length (time_line t) ≤ 8
unfolding time_line
time_length t h =
    omega (arith, length-append (decimal t) (lf ∷ []), few_digits 9 5 t [] (omega arith) h)

pub time_is_lem : (t : ℕ) (r : List ℕ) → time_is t (time_line t ++ r) ≡ true
unfolding time_is
time_is_lem t r =
    rw (time_parts t r)
    (and_both
    (begins_append (hash ∷ decimal t) (lf ∷ r))
    (rw (get_or_at (hash ∷ decimal t) lf r 0 (1 + length (decimal t)) (omega arith))))

pub time_right : (t : ℕ) (s : List ℕ) → time_is t s ≡ true → wrong_time t s ≡ false
unfolding wrong_time
time_right t s e = rw e (and-false (has_time s))

pub time_early : (t : ℕ) (s : List ℕ) → t < most_cycles → full_time t s ≡ false
unfolding full_time
time_early t s h = rw (lt-leb most_cycles t h)

pub time_below : (t : ℕ) (s : List ℕ) → time_is t s ≡ true → full_time t s ≡ false → t < most_cycles
unfolding full_time
time_below t s e none = leb-false most_cycles t (sym (and-true (leb most_cycles t)) ∙ rw e at none)
