-- HMASTLOCK, GRANTED, the phase and k as one number v, in which each has a byte.
--
--   same_flag == two flags, each of which is high where the other is
--   Small v, small_of, of_small == the flags below 2, the phase and k below 4, as facts
--   small_sum == they are so exactly where v is the sum of the bits that they may have
--   place_is  == the place of such
use Prim.Native.Nat.{ℕ, ◌+◌, ◌*◌, ◌/◌, ◌%◌, ◌≤◌, ◌<◌}
use mathlib.Core.Path.{◌≡◌, refl, sym, ap, ◌∙◌}
use mathlib.Core.Bool.{Bool, true, false}
use native.Mathlib.Omega.{arith}
use borrow.Author.Tests.{leb-true, le-leb, eqb-true, eq-eqb}
use lib.Dec.{eqb, leb}
use Rattle.rules.proofs.Choice.{and_left, and_right}
use Rattle.octets.specs.Octets.{small, place_of}

pub same_flag : (a b : Bool) → (a ≡ true → b ≡ true) → (b ≡ true → a ≡ true) → a ≡ b
same_flag true b f g = sym (f refl)
same_flag false true f g = g refl
same_flag false false f g = refl

-- the bits that the four have where they are small
abbrev bits_of : ℕ → ℕ
bits_of v = v % 2 + v / 256 % 2 * 256 + v / 65536 % 4 * 65536 + v / 16777216 % 4 * 16777216

pub record Small (v : ℕ) : Type 0 where
  pub lock : v % 256 ≤ 1
  pub granted : v / 256 % 256 ≤ 1
  pub phase : v / 65536 % 256 ≤ 3
  pub left : v / 16777216 ≤ 3

record Smalls (v : ℕ) : Type 0 where
  lock : leb (v % 256) 1 ≡ true
  granted : leb (v / 256 % 256) 1 ≡ true
  phase : leb (v / 65536 % 256) 3 ≡ true
  left : leb (v / 16777216) 3 ≡ true

smalls_of : (v : ℕ) → small v ≡ true → Smalls v
unfolding small
smalls_of v e = search (and_left, and_right) depth 9

pub small_of : (v : ℕ) → small v ≡ true → Small v
small_of v e =
    let s = smalls_of v e in
    record { lock = leb-true _ _ s.lock; granted = leb-true _ _ s.granted; phase = leb-true _ _ s.phase; left = leb-true _ _ s.left }

pub of_small : (v : ℕ) → Small v → small v ≡ true
unfolding small
of_small v s =
    simp (le-leb _ 1 s.lock, le-leb _ 1 s.granted, le-leb _ 3 s.phase, le-leb _ 3 s.left)

-- v by its four bytes, and by the bits that they may have
record Split (v : ℕ) : Type 0 where
  whole : v ≡ v % 256 + v / 256 % 256 * 256 + v / 65536 % 256 * 65536 + v / 16777216 * 16777216
  lock : v % 2 ≡ v % 256 % 2
  granted : v / 256 % 2 ≡ v / 256 % 256 % 2
  phase : v / 65536 % 4 ≡ v / 65536 % 256 % 4

split : (v : ℕ) → Split v
split v = record { whole = omega arith; lock = omega arith; granted = omega arith; phase = omega arith }

-- so the bits of v are those of its bytes
bits : (v : ℕ) → bits_of v ≡ v % 256 % 2 + v / 256 % 256 % 2 * 256 + v / 65536 % 256 % 4 * 65536 + v / 16777216 % 4 * 16777216
bits v = let s = split v in rw (s.lock, s.granted, s.phase)

-- what is small has no other bits, and what has no other bits is small
all_there : (l a p k : ℕ) → l ≤ 1 → a ≤ 1 → p ≤ 3 → k ≤ 3
    → l + a * 256 + p * 65536 + k * 16777216 ≡ l % 2 + a % 2 * 256 + p % 4 * 65536 + k % 4 * 16777216
all_there l a p k hl ha hp hk = omega arith

no_more : (l a p k : ℕ) → l + a * 256 + p * 65536 + k * 16777216 ≡ l % 2 + a % 2 * 256 + p % 4 * 65536 + k % 4 * 16777216
    → (l ≤ 1) × (a ≤ 1) × (p ≤ 3) × (k ≤ 3)
no_more l a p k e = (omega arith, omega arith, omega arith, omega arith)

pub small_sum : (v : ℕ) → eqb v (bits_of v) ≡ small v
small_sum v =
    same_flag (eqb v (bits_of v)) (small v)
    (λ e.
    let s = split v in
    let n = no_more (v % 256) (v / 256 % 256) (v / 65536 % 256) (v / 16777216) (sym s.whole ∙ eqb-true v (bits_of v) e ∙ bits v) in
    of_small v (record { lock = n.0; granted = n.1; phase = n.2; left = n.3 }))
    (λ e.
    let m = small_of v e in
    eq-eqb v (bits_of v)
    ((split v).whole ∙ all_there (v % 256) (v / 256 % 256) (v / 65536 % 256) (v / 16777216) m.lock m.granted m.phase m.left ∙ sym (bits v)))

-- a number in bits 24 to 29 of t
middle : (t place high low : ℕ) → t ≡ (place + high * 64) * 16777216 + low → low < 16777216 → place < 64 → t / 16777216 % 64 ≡ place
middle t place high low e h k = omega arith

-- the product moves each of the four to its place there
side_by_side : (l a p k : ℕ) → l ≤ 1 → a ≤ 1 → p ≤ 3 → k ≤ 3
    → (l + a * 256 + p * 65536 + k * 16777216) * 16909328 / 16777216 % 64 ≡ l + 2 * a + 4 * p + 16 * k
side_by_side l a p k hl ha hp hk =
    middle ((l + a * 256 + p * 65536 + k * 16777216) * 16909328) (l + 2 * a + 4 * p + 16 * k) (a * 4 + p * 1032 + k * 264208) (l * 132112 + a * 266240 + p * 1048576)
    (omega arith) (omega arith) (omega arith)

pub place_is : (v : ℕ) → small v ≡ true → v * 16909328 / 16777216 % 64 ≡ place_of v
place_is v e =
    let m = small_of v e in
    ap (λ (w : ℕ). w * 16909328 / 16777216 % 64) (split v).whole
    ∙ side_by_side (v % 256) (v / 256 % 256) (v / 65536 % 256) (v / 16777216) m.lock m.granted m.phase m.left
