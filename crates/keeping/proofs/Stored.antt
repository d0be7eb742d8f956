-- Counts stored one after the other.
--
--   stored_next == one more count is stored
--   stored_all  == all are stored
--   from_kept   == a list is what its own places give
--   some_next   == some place below i + 1
use Prim.Native.Nat.{ℕ, zero, suc, ◌+◌, ◌<◌}
use mathlib.Core.Path.{◌≡◌, sym, ◌∙◌, ap}
use mathlib.Core.Bool.{Bool, ◌||◌}
use mathlib.Core.List.{List, [], ◌∷◌, ◌++◌}
use native.Mathlib.Numerals.{add-one}
use native.Mathlib.Omega.{arith}
use lib.ListN.{length, get_or, set, take, drop}
use lib.Seq.{take-suc-set, take_all, drop-cons, drop-length}
use Rattle.rulebook.specs.Columns.{some_below}
use Rattle.rulebook.specs.Charges.{list_from}

from_last : (b k : ℕ) (f : ℕ → ℕ) → list_from b (suc k) f ≡ list_from b k f ++ (f (b + k) ∷ [])
unfolding list_from
from_last b zero f =
    let e : b + 0 ≡ b = omega arith in
    rw e
from_last b (suc k) f =
    let e : b + 1 + k ≡ b + suc k = omega arith in
    ap (λ (l : List ℕ). f b ∷ l) (rw e at (from_last (b + 1) k f))

pub stored_next : (f : ℕ → ℕ) (l : List ℕ) (i v : ℕ) → i < length l → take i l ≡ list_from 0 i f → v ≡ f i → take (i + 1) (set l i v) ≡ list_from 0 (i + 1) f
stored_next f l i v h e g =
    let z : 0 + i ≡ i = omega arith in
    rw (add-one i, take-suc-set l i v h, e, g) (sym (rw z at (from_last 0 i f)))

pub stored_all : (f : ℕ → ℕ) (l : List ℕ) (k i : ℕ) → length l ≡ k → i ≡ k → take i l ≡ list_from 0 i f → l ≡ list_from 0 k f
stored_all f l k i n e g = sym (take_all i l (omega arith)) ∙ rw (← e) g

from_drop : (l : List ℕ) (b k : ℕ) → length l ≡ b + k → list_from b k (λ i. get_or l i 0) ≡ drop b l
unfolding list_from
from_drop l b zero n =
    let e : b ≡ length l = omega arith in
    rw e (sym (drop-length l))
from_drop l b (suc k) n =
    rw (from_drop l (b + 1) k (omega arith), add-one b) (sym (drop-cons l b 0 (omega arith)))

pub from_kept : (l : List ℕ) (k : ℕ) → length l ≡ k → l ≡ list_from 0 k (λ i. get_or l i 0)
from_kept l k n = sym (from_drop l 0 k (omega arith))

pub some_next : (f : ℕ → Bool) (i : ℕ) (r s : Bool) → r ≡ some_below i f → s ≡ f i → (r || s) ≡ some_below (i + 1) f
unfolding some_below
some_next f i r s e g = rw (add-one i) (cc)
