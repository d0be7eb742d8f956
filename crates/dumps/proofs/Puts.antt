-- Lines that are put one after the other.
--
--   put_none  == a variable that did not change has no line
--   put_line  == the line of one that did
--   line_stores, line_end, line_short == the stores of a line of several bits, where it ends, and how long it is
--   put_then  == a second run of bytes where the first ends
--   put_last  == and nothing after it
--   put_start == bytes that are put at the start of a buffer, and what stands after them
use Prim.Native.Nat.{ℕ, ◌+◌, ◌≤◌}
use mathlib.Core.Path.{◌≡◌, refl, sym, ◌∙◌}
use mathlib.Core.Bool.{Bool, true, false, not, ◌||◌}
use mathlib.Core.List.{List, [], ◌∷◌, ◌++◌, append-nil}
use native.Mathlib.Omega.{arith}
use native.Mathlib.Nat.{add-zero, zero-add, add_comm}
use native.Mathlib.Numerals.{towards_suc}
use lib.Dec.{eqb}
use lib.ListN.{length, drop, set, length-append}
use lib.Seq.{sets, sets-eq}
use Rattle.waves.specs.Variables.{Variable, change}
use Rattle.fields.proofs.Stores.{then_sets, set_first}
use Rattle.dumps.specs.Changed.{changed, Put}

module _ (b : List ℕ) (at : ℕ) (all : Bool) (x : Variable) (v u k : ℕ) where
  pub put_none : (all || not (eqb u v)) ≡ false → Put b at (changed all x v u) k at b
  unfolding changed
  put_none e = rw e (record { after = sym (add-zero at); within = omega arith; bytes = refl })

  pub put_line : (c s : List ℕ) (r : ℕ) → (all || not (eqb u v)) ≡ true → change x u ≡ s → r ≡ at + length s → length s ≤ k → c ≡ sets b at s
      → Put b at (changed all x v u) k r c
  unfolding changed
  put_line c s r e same n few w = rw (e, same) (record { after = n; within = omega arith; bytes = w })

-- bs is the text of the bits
pub line_stores : (b c bs : List ℕ) (at end k : ℕ) → c ≡ sets b (at + 1) bs → end ≡ at + length bs + 1
    → set (set (set (set c at 98) end 32) (end + 1) k) (end + 2) 10 ≡ sets b at (98 ∷ (bs ++ (32 ∷ k ∷ 10 ∷ [])))
line_stores b c bs at end k e n =
    then_sets b (set c at 98) (set (set (set (set c at 98) end 32) (end + 1) k) (end + 2) 10) at end (98 ∷ bs) (32 ∷ k ∷ 10 ∷ [])
    (set_first b c at 98 bs e) (omega arith) (simp towards_suc)

pub line_end : (bs : List ℕ) (at end k : ℕ) → end ≡ at + length bs + 1 → end + 3 ≡ at + length (98 ∷ (bs ++ (32 ∷ k ∷ 10 ∷ [])))
line_end bs at end k n = simp length-append (omega arith)

pub line_short : (bs : List ℕ) (w k : ℕ) → length bs ≡ w → length (98 ∷ (bs ++ (32 ∷ k ∷ 10 ∷ []))) ≤ w + 4
line_short bs w k n = simp length-append (omega arith)

module _ (b : List ℕ) (at : ℕ) (s : List ℕ) (k : ℕ) where
  pub put_then : (p : ℕ) (c t : List ℕ) (j r : ℕ) (d : List ℕ) → Put b at s k p c → Put c p t j r d → Put b at (s ++ t) (k + j) r d
  put_then p c t j r d first second =
      record {
        after = simp length-append (omega (arith, first.after, second.after));
        within = omega (arith, first.within, second.within);
        bytes = then_sets b c d at p s t first.bytes (first.after ∙ add_comm at (length s)) second.bytes;
      }

  pub put_last : (r : ℕ) (c : List ℕ) → Put b at s k r c → Put b at (s ++ []) k r c
  put_last r c p = rw append-nil p

pub put_start : (b s : List ℕ) (k r : ℕ) (c : List ℕ) → k ≤ length b → Put b 0 s k r c → (r ≡ length s) × (c ≡ s ++ drop (length s) b)
put_start b s k r c room p =
    (p.after ∙ zero-add (length s), p.bytes ∙ rw zero-add at (sets-eq s b 0 (omega (arith, p.after, p.within))))
