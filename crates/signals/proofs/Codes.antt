-- The burst codes by the two that the code asks for.
--
--   by_code     == what holds of each sort of burst, beside the two codes that the rules ask for, holds of every code
use Prim.Native.Nat.{ℕ, zero, suc}
use mathlib.Core.Bool.{Bool, true, false, cond}
use native.Mathlib.Omega.{arith}
use borrow.Author.Tests.{ne_eqb}
use lib.Dec.{eqb, leb}
use Rattle.rules.specs.declared.Burst.{Burst}
use Rattle.rules.specs.declared.Burst.TheVariants as burst
use Rattle.rules.specs.Codes.{burst_of}

pub by_code : (P : Bool → Bool → Burst → Type 0)
    → P false false burst.Single → P true false burst.Unspecified → P false true (burst.Fixed 4)
    → P false false burst.NotBuilt → P false false burst.NoCode
    → (k : ℕ) → P (eqb k 1) (eqb k 3) (burst_of k)
unfolding burst_of
by_code P s u f b n zero = s
by_code P s u f b n (suc zero) = u
by_code P s u f b n (suc (suc zero)) = b
by_code P s u f b n (suc (suc (suc zero))) = f
by_code P s u f b n (suc (suc (suc (suc k)))) =
    rw (ne_eqb (suc (suc (suc (suc k)))) 0 (λ q. omega arith), ne_eqb (suc (suc (suc (suc k)))) 1 (λ q. omega arith), ne_eqb (suc (suc (suc (suc k)))) 3 (λ q. omega arith)) (rest (leb (suc (suc (suc (suc k)))) 7))
  where
    rest : (few : Bool) → P false false (cond few burst.NotBuilt burst.NoCode)
    rest true = b
    rest false = n
