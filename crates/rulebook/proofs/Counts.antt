-- The counts of the sixteen masters, and a search among them.
--
--   list_at    == the entries of the list of f i, for i from 0 on
--   list_length, list_same == its length; equal entries make equal lists
--   some_same  == a search asks only what f answers below k
--   some_none  == where none has f, the search finds none
--   none_below == where the search finds none, none has f
--   some_limit == G11's limit is above 0
use Prim.Native.Nat.{ℕ, zero, suc, ◌+◌, ◌<◌}
use mathlib.Core.Path.{◌≡◌, refl, ◌∙◌, ap}
use mathlib.Core.Bool.{Bool, false}
use native.Mathlib.Omega.{arith}
use borrow.Author.Tests.{eqb-true, eqb-false}
use lib.Dec.{eqb}
use lib.ListN.{length, get_or}
use Rattle.rules.proofs.Choice.{either, or_left, or_right}
use Rattle.rulebook.specs.Columns.{some_below}
use Rattle.rulebook.specs.Rules.{limit}
use Rattle.rulebook.specs.Charges.{list_from}

from_at : (b k i : ℕ) (f : ℕ → ℕ) → i < k → get_or (list_from b k f) i 0 ≡ f (b + i)
unfolding list_from
from_at b zero i f h = absurd (omega arith)
from_at b (suc k) zero f h = ap f (omega arith)
from_at b (suc k) (suc i) f h = from_at (b + 1) k i f (omega arith) ∙ ap f (omega arith)

pub list_at : (k i : ℕ) (f : ℕ → ℕ) → i < k → get_or (list_from 0 k f) i 0 ≡ f i
list_at k i f h = from_at 0 k i f h ∙ ap f (omega arith)

pub list_length : (b k : ℕ) (f : ℕ → ℕ) → length (list_from b k f) ≡ k
unfolding list_from
list_length b zero f = refl
list_length b (suc k) f = ap suc (list_length (b + 1) k f)

pub list_same : (b k : ℕ) (f g : ℕ → ℕ) → ((i : ℕ) → i < b + k → f i ≡ g i) → list_from b k f ≡ list_from b k g
unfolding list_from
list_same b zero f g e = refl
list_same b (suc k) f g e = rw (e b (omega arith), list_same (b + 1) k f g (λ i h. e i (omega arith)))

pub some_same : (k : ℕ) (f g : ℕ → Bool) → ((i : ℕ) → i < k → f i ≡ g i) → some_below k f ≡ some_below k g
unfolding some_below
some_same zero f g e = refl
some_same (suc k) f g e = rw (e k (omega arith), some_same k f g (λ i h. e i (omega arith)))

pub some_none : (k : ℕ) (f : ℕ → Bool) → ((i : ℕ) → i < k → f i ≡ false) → some_below k f ≡ false
unfolding some_below
some_none zero f e = refl
some_none (suc k) f e = rw (e k (omega arith), some_none k f (λ i h. e i (omega arith)))

pub none_below : (k : ℕ) (f : ℕ → Bool) → some_below k f ≡ false → (i : ℕ) → i < k → f i ≡ false
unfolding some_below
none_below zero f e i h = absurd (omega arith)
none_below (suc k) f e i h =
    either (eqb i k)
    (λ same. rw (eqb-true i k same) (or_right (some_below k f) (f k) e))
    (λ other. none_below k f (or_left (some_below k f) (f k) e) i (omega (arith, eqb-false i k other)))

pub some_limit : (n : ℕ) → 0 < n → 0 < limit n
some_limit n pos = pos
