-- Bytes and the number that they write, low byte first, correspond one to one.
--
--   Bytes b         == each element of b is below 256; none_bytes, one_more make such lists
--   slots b p w     == w elements of b from p on; slots_take: the same by take and drop
--   number_length, number_bytes == a number in w bytes is w bytes
--   number_low_byte, number_low_rest == the low byte of a number, and the number without it
--   bytes_of_number == the number that w bytes write has those bytes; again_bytes: the same of a list of w bytes
--   same_bytes      == bytes that write one number are the same
--   number_shift    == the number in a list that starts later
--   part_rest, nothing_after == a slice that starts later, as a call is lent it, is the whole rest
--   number_part     == the number in such a slice
--   number_below    == w bytes write a number below 256 ^ w
--   in_first        == an element of the first k, in a form that computes where the numbers are literals
--   put_back        == a list whose first elements are put back is as it was
--   low_four, four_read == the four bytes of a number, and the number of four bytes, as the library has them
use Prim.Native.Nat.{ℕ, zero, suc, ◌+◌, ◌-◌, ◌/◌, ◌%◌, ◌^◌, ◌≤◌, ◌<◌}
use mathlib.Core.Path.{◌≡◌, refl, sym, ◌∙◌}
use mathlib.Core.Bool.{Bool, true, false, cond}
use mathlib.Core.List.{List, [], ◌∷◌, ◌++◌}
use native.Mathlib.Omega.{arith}
use native.Mathlib.Numerals.{add-one}
use borrow.Author.Tests.{ltb-true, ltb-false}
use lib.Dec.{ltb}
use lib.ListN.{take-append-drop, get_or-eq_default, length-take, length, get_or, take, drop, length-drop, drop_of_length-le}
use Rattle.std.proofs.lemmas.List.{get_or-take}
use lib.Seq.{drop-cons, take_all, get_or-drop}
use Rattle.std.specs.Int.{w32, to_le_bytes, from_le_bytes}
use Rattle.words.specs.Words.{low_first, number_low}

-- a list of bytes: what a lent slice holds
pub record Bytes (b : List ℕ) : Type 0 where
  pub below : (i : ℕ) → get_or b i 0 < 256

pub none_bytes : Bytes []
none_bytes = record { below = λ i. omega arith }

pub one_more : {x : ℕ} {b : List ℕ} → x < 256 → Bytes b → Bytes (x ∷ b)
one_more {x} {b} h w = record { below = at }
  where
    at : (i : ℕ) → get_or (x ∷ b) i 0 < 256
    at zero = h
    at (suc i) = w.below i

-- w elements of a list from p on
abbrev pub slots : List ℕ → ℕ → ℕ → List ℕ
slots b p zero = []
slots b p (suc w) = get_or b p 0 ∷ slots b (p + 1) w

pub slots_take : (b : List ℕ) (w p : ℕ) → p + w ≤ length b → take w (drop p b) ≡ slots b p w
slots_take b zero p h = refl
slots_take b (suc w) p h = rw (drop-cons b p 0 (omega arith), ← add-one, slots_take b w (p + 1) (omega arith))

pub number_length : (w v : ℕ) → length (low_first w v) ≡ w
number_length zero v = refl
number_length (suc w) v = rw (number_length w (v / 256)) refl

pub number_bytes : (w v : ℕ) → Bytes (low_first w v)
number_bytes zero v = none_bytes
number_bytes (suc w) v = one_more (omega arith) (number_bytes w (v / 256))

pub number_low_byte : (w : ℕ) (b : List ℕ) (p : ℕ) → Bytes b → number_low (suc w) b p % 256 ≡ get_or b p 0
number_low_byte w b p h = omega (arith, h.below p)

pub number_low_rest : (w : ℕ) (b : List ℕ) (p : ℕ) → Bytes b → number_low (suc w) b p / 256 ≡ number_low w b (p + 1)
number_low_rest w b p h = omega (arith, h.below p)

pub bytes_of_number : (w : ℕ) (b : List ℕ) (p : ℕ) → Bytes b → low_first w (number_low w b p) ≡ slots b p w
bytes_of_number zero b p h = refl
bytes_of_number (suc w) b p h = rw (number_low_byte w b p h, number_low_rest w b p h, bytes_of_number w b (p + 1) h)

pub again_bytes : (w : ℕ) (c : List ℕ) → Bytes c → length c ≡ w → low_first w (number_low w c 0) ≡ c
again_bytes w c h e = bytes_of_number w c 0 h ∙ sym (slots_take c w 0 (omega arith)) ∙ take_all w c (omega arith)

pub same_bytes : (w : ℕ) (b : List ℕ) (p : ℕ) (c : List ℕ) → Bytes b → Bytes c → length c ≡ w → number_low w b p ≡ number_low w c 0 → slots b p w ≡ c
same_bytes w b p c h i e f = sym (bytes_of_number w b p h) ∙ rw f (again_bytes w c i e)

pub number_shift : (w k : ℕ) (b : List ℕ) (p : ℕ) → number_low w (drop k b) p ≡ number_low w b (k + p)
number_shift zero k b p = refl
number_shift (suc w) k b p =
    let i : k + (p + 1) ≡ k + p + 1 = omega arith in
    rw (get_or-drop k b p 0, number_shift w k b (p + 1), i)

-- a slice from k on, as a call is lent it
pub part_rest : (k : ℕ) (b : List ℕ) → take (length b - k) (drop k b) ≡ drop k b
part_rest k b = take_all (length b - k) (drop k b) (omega (arith, length-drop k b))

pub nothing_after : (k : ℕ) (b : List ℕ) → drop (length b - k) (drop k b) ≡ []
nothing_after k b = drop_of_length-le (drop k b) {i = length b - k} (simp length-drop (omega arith))

pub number_part : (w k : ℕ) (b : List ℕ) (p : ℕ) → number_low w (take (length b - k) (drop k b)) p ≡ number_low w b (k + p)
number_part w k b p = rw (part_rest k b) (number_shift w k b p)

pub number_below : (w : ℕ) (b : List ℕ) (p : ℕ) → Bytes b → number_low w b p < 256 ^ w
number_below zero b p h = omega arith
number_below (suc w) b p h = omega (arith, h.below p, number_below w b (p + 1) h)

pub low_four : (v : ℕ) → to_le_bytes w32 v ≡ low_first 4 v
low_four v =
    let second : v / 65536 ≡ v / 256 / 256 = omega arith in
    let third : v / 16777216 ≡ v / 256 / 256 / 256 = omega arith in
    simp (second, third)

pub four_read : (b : List ℕ) (p : ℕ) → from_le_bytes w32 (slots b p 4) ≡ number_low 4 b p
four_read b p = omega arith

pub in_first : (k : ℕ) (l : List ℕ) (i : ℕ) → get_or (take k l) i 0 ≡ cond (ltb i k) (get_or l i 0) 0
in_first k l i = go (ltb i k) refl
  where
    go : (b : Bool) → ltb i k ≡ b → get_or (take k l) i 0 ≡ cond b (get_or l i 0) 0
    go true e = get_or-take k l i 0 (ltb-true i k e)
    go false e = let h = ltb-false i k e in get_or-eq_default (take k l) 0 (omega (arith, length-take k l))

pub put_back : (k : ℕ) (l first : List ℕ) → first ≡ take k l → first ++ drop k l ≡ l
put_back k l first e = rw e (take-append-drop k l)
