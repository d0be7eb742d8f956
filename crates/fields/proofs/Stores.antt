-- Runs of stores.
--
--   sets_append == two runs, the second where the first ends, are one
--   then_sets   == the same of two buffers, one made from the other
--   set_first   == a store just before a run makes it longer by one
use Rattle.std.proofs.Common.{◌≡◌, ℕ, suc, ◌+◌, ◌<◌, List, [], ◌∷◌, ◌++◌, length, set, sym, refl, ap, ◌∙◌, add-suc, suc-add, zero-add, add-one, arith}
use lib.Seq.{sets, set_comm}

pub sets_append : (l : List ℕ) (i : ℕ) (a b : List ℕ) → sets (sets l i a) (length a + i) b ≡ sets l i (a ++ b)
sets_append l i [] b = ap (λ (k : ℕ). sets l k b) (zero-add i)
sets_append l i (x ∷ a) b =
    ap (λ (k : ℕ). sets (sets (set l i x) (suc i) a) k b) (suc-add (length a) i ∙ sym (add-suc (length a) i))
    ∙ sets_append (set l i x) (suc i) a b

pub then_sets : (l m r : List ℕ) (i k : ℕ) (a b : List ℕ) → m ≡ sets l i a → k ≡ length a + i → r ≡ sets m k b → r ≡ sets l i (a ++ b)
then_sets l m r i k a b e p f = f ∙ rw (e, p) (sets_append l i a b)

set_before : (l : List ℕ) (i j x : ℕ) (a : List ℕ) → i < j → set (sets l j a) i x ≡ sets (set l i x) j a
set_before l i j x [] h = refl
set_before l i j x (y ∷ a) h =
    set_before (set l j y) i (suc j) x a (omega arith)
    ∙ ap (λ (m : List ℕ). sets m (suc j) a) (set_comm l j i y x (λ e. omega arith))

pub set_first : (l m : List ℕ) (i x : ℕ) (a : List ℕ) → m ≡ sets l (i + 1) a → set m i x ≡ sets l i (x ∷ a)
set_first l m i x a e = rw (e, add-one) (set_before l i (suc i) x a (omega arith))
