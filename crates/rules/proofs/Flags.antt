-- Flags as numbers, and numbers joined by `|`.
--
--   flag_most   == a flag's number is at most 1
--   flag_again  == a flag is that of its number
--   or_least    == a | b is no less than either
--   or_none_lem == a | b is 0 only where both are
use Prim.Native.Nat.{ℕ, ◌≤◌}
use mathlib.Core.Path.{◌≡◌, refl}
use mathlib.Core.Bool.{Bool, true, false}
use native.Mathlib.Omega.{arith}
use lib.Dec.{eqb}
use lib.Bits.{bit_or, or_add_and, and_le_l, and_le_r}
use Rattle.rules.specs.Step.{flag_of}

pub flag_most : (b : Bool) → flag_of b ≤ 1
flag_most true = omega arith
flag_most false = omega arith

pub flag_again : (b : Bool) → eqb (flag_of b) 1 ≡ b
flag_again true = refl
flag_again false = refl

pub or_least : (a b : ℕ) → (a ≤ bit_or a b) × (b ≤ bit_or a b)
or_least a b =
    (omega (arith, or_add_and a b, and_le_r a b), omega (arith, or_add_and a b, and_le_l a b))

pub or_none_lem : (a b : ℕ) → bit_or a b ≡ 0 → (a ≡ 0) × (b ≡ 0)
or_none_lem a b e = let h = or_least a b in (omega arith, omega arith)
