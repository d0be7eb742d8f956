-- The tables: what is shown of each entry, once it is computed for all.
--
--   fits_entry  == the bit of each place
--   phase_entry == the digit of each place, which is 5 at most
--   byte_entry  == the entry of each phase's number
use Prim.Native.Nat.{ℕ, ◌*◌, ◌/◌, ◌%◌, ◌^◌, ◌≤◌, ◌<◌}
use mathlib.Core.Path.{◌≡◌}
use mathlib.Core.Bool.{true}
use mathlib.Core.List.{List}
use native.Mathlib.Omega.{arith}
use borrow.Author.Tests.{leb-true}
use lib.Dec.{eqb, leb}
use lib.ListN.{get_or}
use Rattle.rules.specs.declared.Phase.{Phase}
use Rattle.words.proofs.Tables.{up_to, same_below}
use Rattle.buses.specs.Buses.{phase_from, phase_number}
use Rattle.hosting.specs.Bytes.{phase_of}
use Rattle.octets.specs.Octets.{fitting}

pub fits_entry : (table : ℕ)
    → up_to 64 (λ i. eqb (table / 2 ^ i % 2) 1) ≡ up_to 64 (λ i. fitting (i % 2) (i / 2 % 2) (i / 4 % 4) (i / 16))
    → (i : ℕ) → i < 64 → eqb (table / 2 ^ i % 2) 1 ≡ fitting (i % 2) (i / 2 % 2) (i / 4 % 4) (i / 16)
fits_entry table = same_below 64 (λ i. eqb (table / 2 ^ i % 2) 1) (λ i. fitting (i % 2) (i / 2 % 2) (i / 4 % 4) (i / 16))

pub phase_entry : (table : ℕ)
    → up_to 64 (λ i. table / 2 ^ (i / 4 * 4) % 8) ≡ up_to 64 (λ i. phase_number (phase_of (i / 4 % 4) (i / 16)))
    → up_to 64 (λ i. leb (table / 2 ^ (i / 4 * 4) % 8) 5) ≡ up_to 64 (λ i. true)
    → (i : ℕ) → i < 64 → (table / 2 ^ (i / 4 * 4) % 8 ≡ phase_number (phase_of (i / 4 % 4) (i / 16))) × (table / 2 ^ (i / 4 * 4) % 8 ≤ 5)
phase_entry table e f i h = (
  same_below 64 (λ i. table / 2 ^ (i / 4 * 4) % 8) (λ i. phase_number (phase_of (i / 4 % 4) (i / 16))) e i h,
  leb-true _ _ (same_below 64 (λ i. leb (table / 2 ^ (i / 4 * 4) % 8) 5) (λ i. true) f i h),
)

-- of is what the entry of a phase is to be
pub byte_entry : (of : Phase → ℕ) (table : List ℕ) → up_to 6 (λ k. get_or table k 0) ≡ up_to 6 (λ k. of (phase_from k))
    → (k : ℕ) → k ≤ 5 → get_or table k 0 ≡ of (phase_from k)
byte_entry of table e k h = same_below 6 (λ k. get_or table k 0) (λ k. of (phase_from k)) e k (omega arith)
