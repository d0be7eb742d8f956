-- What it is that a text begins with another, as the library's tests tell it.
--
--   begins_first, begins_cut == that the first bytes are the same
--   nothing_there == beyond the end no word stands
use Rattle.std.proofs.Common.{◌≡◌, ℕ, ◌<◌, false, ◌&&◌, nat_eq, eqb, List, [], ◌∷◌, length, take, drop, refl, sym, ap, ◌∙◌, arith, eqb-true, eq-eqb, ne_eqb}
use borrow.Author.Tests.{eqb-false}
use Rattle.std.specs.Cmp.Lexicographic.{pointwise}
use lib.ListN.{drop_of_length-le}
use Rattle.rules.proofs.Choice.{either}
use Rattle.waves.specs.Header.{begins}

same_byte : (a b : ℕ) → eqb a b ≡ eqb b a
same_byte a b =
    either (eqb a b) (λ t. t ∙ sym (eq-eqb b a (sym (eqb-true a b t)))) (λ f. f ∙ sym (ne_eqb b a (λ e. eqb-false a b f (sym e))))

pub begins_cut : (s t : List ℕ) → begins s t ≡ pointwise nat_eq (take (length t) s) t
unfolding begins
begins_cut s [] = refl
begins_cut [] (b ∷ t) = refl
begins_cut (a ∷ s) (b ∷ t) = ap (λ x. eqb a b && x) (begins_cut s t)

pub begins_first : (s t : List ℕ) → begins s t ≡ pointwise nat_eq t (take (length t) s)
unfolding begins
begins_first s [] = refl
begins_first [] (b ∷ t) = refl
begins_first (a ∷ s) (b ∷ t) = ap (λ x. x && begins s t) (same_byte a b) ∙ ap (λ x. eqb b a && x) (begins_first s t)

nothing_begins : (t : List ℕ) → 0 < length t → begins [] t ≡ false
unfolding begins
nothing_begins [] h = absurd (omega arith)
nothing_begins (b ∷ t) h = refl

pub nothing_there : (s t : List ℕ) (p : ℕ) → length s < p → 0 < length t → begins (drop p s) t ≡ false
nothing_there s t p h k = rw (drop_of_length-le s {i = p} (omega arith)) (nothing_begins t k)
