-- Bytes that are written into the rest of a buffer, from a place on.
--
--   rest k b        == the rest of the buffer b from k on, as a call is lent it
--   with_tail k b t == b with t in the place of that rest, as the call leaves it
--   tail_put        == bytes written at the start of the rest stand in the whole from k on
--   put_on          == they continue those that stand before them
--   put_over        == or take the place of the last of those
use Rattle.std.proofs.Common.{◌≡◌, ℕ, zero, suc, ◌-◌, ◌≤◌, List, [], ◌∷◌, ◌++◌, length, take, drop, set, sym, refl, ap, ◌∙◌, append-nil, add-zero, arith, set-set}
use lib.Seq.{sets, length-sets}
use Rattle.words.proofs.Words.{part_rest, nothing_after}
use Rattle.fields.proofs.Stores.{sets_append, then_sets}

abbrev pub rest : ℕ → List ℕ → List ℕ
rest k b = take (length b - k) (drop k b)

abbrev pub with_tail : ℕ → List ℕ → List ℕ → List ℕ
with_tail k b t = take k b ++ (t ++ drop (length b - k) (drop k b))

sets_later : (x : ℕ) (l : List ℕ) (i : ℕ) (vs : List ℕ) → sets (x ∷ l) (suc i) vs ≡ x ∷ sets l i vs
sets_later x l i [] = refl
sets_later x l i (v ∷ vs) = sets_later x (set l i v) (suc i) vs

sets_rest : (k : ℕ) (l vs : List ℕ) → k ≤ length l → take k l ++ sets (drop k l) 0 vs ≡ sets l k vs
sets_rest zero l vs h = refl
sets_rest (suc k) [] vs h = absurd (omega arith)
sets_rest (suc k) (x ∷ l) vs h = ap (λ (m : List ℕ). x ∷ m) (sets_rest k l vs (omega arith)) ∙ sym (sets_later x l k vs)

pub tail_put : (k : ℕ) (b t vs : List ℕ) → k ≤ length b → t ≡ sets (rest k b) 0 vs → with_tail k b t ≡ sets b k vs
tail_put k b t vs h e = rw (nothing_after k b, append-nil, e, part_rest k b) (sets_rest k b vs h)

pub put_on : (k : ℕ) (b c t us vs : List ℕ) → c ≡ sets b 0 us → k ≡ length us → k ≤ length b → t ≡ sets (rest k c) 0 vs
    → with_tail k c t ≡ sets b 0 (us ++ vs)
put_on k b c t us vs e n h f =
    let size : length c ≡ length b = rw e (length-sets b 0 us) in
    then_sets b c (with_tail k c t) 0 k us vs e (n ∙ sym (add-zero (length us))) (tail_put k c t vs (omega arith) f)

over_last : (b us : List ℕ) (z v : ℕ) (vs : List ℕ) → sets (sets b 0 (us ++ (z ∷ []))) (length us) (v ∷ vs) ≡ sets b 0 (us ++ (v ∷ vs))
over_last b us z v vs =
    rw (← sets_append b 0 us (z ∷ []), ← sets_append b 0 us (v ∷ vs), add-zero (length us))
    (ap (λ (l : List ℕ). sets l (suc (length us)) vs) (set-set (sets b 0 us) (length us) z v))

pub put_over : (k : ℕ) (b c t us : List ℕ) (z v : ℕ) (vs : List ℕ) → c ≡ sets b 0 (us ++ (z ∷ [])) → k ≡ length us → k ≤ length b
    → t ≡ sets (rest k c) 0 (v ∷ vs) → with_tail k c t ≡ sets b 0 (us ++ (v ∷ vs))
put_over k b c t us z v vs e n h f =
    let size : length c ≡ length b = rw e (length-sets b 0 (us ++ (z ∷ []))) in
    tail_put k c t (v ∷ vs) (omega arith) f ∙ rw (e, n) (over_last b us z v vs)
