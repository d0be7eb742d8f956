-- Bytes and lists of them.
--
--   below          == what holds of both sides of a choice by `<` holds of the choice
--   each_map, each_append, each_at == what every element has
--   part_at        == two lists that are parted by the same byte, which stands in neither first part, agree in both parts
--   present        == a byte other than 0 stands inside the input
--   bytes_at k s p == the k bytes from p on, one by one
--   take_bytes     == they are what is taken there
use Prim.Native.Nat.{ℕ, zero, suc, ◌+◌, ◌≤◌, ◌<◌}
use mathlib.Core.Path.{◌≡◌, refl, sym}
use mathlib.Core.Bool.{cond}
use mathlib.Core.List.{List, [], ◌∷◌, ◌++◌, head-eq_of_cons-eq, tail-eq_of_cons-eq}
use native.Mathlib.Omega.{arith}
use borrow.Author.Tests.{ltb-true, ltb-false}
use lib.Dec.{ltb}
use lib.ListN.{length, get_or, take, drop, length-drop, get_or-eq_default}
use lib.Seq.{take-suc, get_or-drop}
use Rattle.rules.proofs.Choice.{cond_elim, order}
use Rattle.formats.specs.Promises.{Each}

pub below : {A : Type 0} (P : A → Type 0) (a b : ℕ) {x y : A} → (a < b → P x) → (b ≤ a → P y) → P (cond (ltb a b) x y)
below P a b f g = cond_elim P (ltb a b) (λ e. f (ltb-true a b e)) (λ e. g (ltb-false a b e))

pub each_map : {A : Type 0} {P Q : A → Type 0} → ((a : A) → P a → Q a) → (l : List A) → Each P l → Each Q l
each_map f [] h = tt
each_map f (a ∷ l) h = (f a h.0, each_map f l h.1)

pub each_append : {A : Type 0} (P : A → Type 0) (l m : List A) → Each P l → Each P m → Each P (l ++ m)
each_append P [] m h k = k
each_append P (a ∷ l) m h k = (h.0, each_append P l m h.1 k)

pub each_at : {A : Type 0} (P : A → Type 0) (l : List A) (i : ℕ) (d : A) → Each P l → i < length l → P (get_or l i d)
each_at P [] i d h k = absurd (omega arith)
each_at P (a ∷ l) zero d h k = h.0
each_at P (a ∷ l) (suc i) d h k = each_at P l i d h.1 (omega arith)

-- b is another byte than c
abbrev pub Not : ℕ → ℕ → Type 0
Not c b = b ≡ c → ⊥

pub part_at : (c : ℕ) (a b x y : List ℕ) → Each (Not c) a → Each (Not c) b → a ++ (c ∷ x) ≡ b ++ (c ∷ y) → (a ≡ b) × (x ≡ y)
part_at c [] [] x y h k e = (refl, tail-eq_of_cons-eq e)
part_at c [] (b ∷ l) x y h k e = absurd (k.0 (sym (head-eq_of_cons-eq e)))
part_at c (a ∷ l) [] x y h k e = absurd (h.0 (head-eq_of_cons-eq e))
part_at c (a ∷ l) (b ∷ m) x y h k e =
    let r = part_at c l m x y h.1 k.1 (tail-eq_of_cons-eq e) in
    let q : a ≡ b = head-eq_of_cons-eq e in
    (cc, r.1)

pub present : (s : List ℕ) (p : ℕ) → 0 < get_or s p 0 → p < length s
present s p h = order (length s) p (λ l. absurd (omega (arith, get_or-eq_default s 0 l))) (λ l. l)

abbrev pub bytes_at : ℕ → List ℕ → ℕ → List ℕ
bytes_at zero s p = []
bytes_at (suc k) s p = bytes_at k s p ++ (get_or s (p + k) 0 ∷ [])

pub take_bytes : (k : ℕ) (s : List ℕ) (p : ℕ) → p + k ≤ length s → take k (drop p s) ≡ bytes_at k s p
take_bytes zero s p h = refl
take_bytes (suc k) s p h =
    let inside : k < length (drop p s) = simp length-drop (omega arith) in
    rw (take-suc (drop p s) k 0 inside, take_bytes k s p (omega arith), get_or-drop p s k 0)
