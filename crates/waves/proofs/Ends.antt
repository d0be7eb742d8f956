-- Where a step ends: before a line that begins with `#`, at the end of the input, or after as many bytes as are looked at.
--
--   Text l       == l ends with LF, and no other LF in it stands before `#`
--   plain_text, text_append == a line is one, and so are two after each other, where the second begins with another byte
--   up_to_text   == a text that is short enough is what the step comes to, where it ends
--   up_to_rest   == a step and what stands after it are the input
--   up_to_ends   == a step of fewer bytes ends there
--   up_to_parted == after LF and before `#` nothing more is looked at
--   up_to_long   == nor after as many bytes as are looked at
use Prim.Native.Nat.{ℕ, zero, suc, ◌≤◌, ◌<◌}
use mathlib.Core.Path.{◌≡◌, refl, sym, ◌∙◌, ap}
use mathlib.Core.Logic.{inl, inr}
use mathlib.Core.Bool.{Bool, false, ◌&&◌}
use mathlib.Core.List.{List, [], ◌∷◌, ◌++◌}
use native.Mathlib.Omega.{arith}
use borrow.Author.Tests.{eqb-true, eq-eqb, ne_eqb}
use lib.Dec.{eqb}
use lib.ListN.{length, get_or, drop}
use Rattle.rules.proofs.Choice.{either, cond_elim, and_right}
use Rattle.formats.specs.Digits.{lf}
use Rattle.formats.proofs.Ends.{Plain}
use Rattle.waves.specs.Steps.{hash}
use Rattle.waves.specs.Reading.{up_to}
use Rattle.waves.specs.Promises.{Ends}

abbrev pub Text : List ℕ → Type 0
Text [] = ⊥
Text (b ∷ []) = b ≡ lf
Text (b ∷ (c ∷ l)) = (b ≡ lf → c ≡ hash → ⊥) × Text (c ∷ l)

pub plain_text : (l : List ℕ) → Plain l → Text (l ++ (lf ∷ []))
plain_text [] h = refl
plain_text (b ∷ []) h = (λ e k. h.0 e, refl)
plain_text (b ∷ (c ∷ l)) h = (λ e k. h.0 e, plain_text (c ∷ l) h.1)

pub text_append : (a b : List ℕ) → Text a → Text b → (get_or b 0 0 ≡ hash → ⊥) → Text (a ++ b)
text_append [] b h k other = absurd h
text_append (x ∷ []) [] h k other = absurd k
text_append (x ∷ []) (y ∷ b) h k other = (λ e. other, k)
text_append (x ∷ (y ∷ a)) b h k other = (h.0, text_append (y ∷ a) b h.1 k other)

none_up_to : (k : ℕ) → up_to k [] ≡ []
unfolding up_to
none_up_to zero = refl
none_up_to (suc k) = refl

-- an LF before `#`
abbrev parts : ℕ → ℕ → Bool
parts b c = eqb b lf && eqb c hash

never : (b c : ℕ) → (b ≡ lf → c ≡ hash → ⊥) → parts b c ≡ false
never b c h =
    either (eqb b lf)
    (λ e. rw e (ne_eqb c hash (h (eqb-true b lf e))))
    (λ e. rw e)

last_up_to : (k : ℕ) (post : List ℕ) → Ends post → up_to (suc k) (lf ∷ post) ≡ lf ∷ []
unfolding up_to
last_up_to k post (inl e) = rw e (ap (λ l. lf ∷ l) (none_up_to k))
last_up_to k post (inr e) = rw (eq-eqb (get_or post 0 0) hash e)

pub up_to_text : (k : ℕ) (l post : List ℕ) → Text l → length l ≤ k → Ends post → up_to k (l ++ post) ≡ l
unfolding up_to
up_to_text k [] post h few ends = absurd h
up_to_text zero (b ∷ l) post h few ends = absurd (omega arith)
up_to_text (suc k) (b ∷ []) post h few ends = rw h (last_up_to k post ends)
up_to_text (suc k) (b ∷ (c ∷ l)) post h few ends =
    rw (never b c h.0, up_to_text k (c ∷ l) post h.1 (omega arith) ends)

pub up_to_rest : (k : ℕ) (s : List ℕ) → up_to k s ++ drop (length (up_to k s)) s ≡ s
unfolding up_to
up_to_rest zero s = refl
up_to_rest (suc k) [] = refl
up_to_rest (suc k) (b ∷ s) =
    cond_elim (λ l. b ∷ (l ++ drop (length l) s) ≡ b ∷ s) (parts b (get_or s 0 0))
    (λ e. refl)
    (λ e. ap (λ l. b ∷ l) (up_to_rest k s))

pub up_to_ends : (k : ℕ) (s : List ℕ) → length (up_to k s) < k → Ends (drop (length (up_to k s)) s)
unfolding up_to
up_to_ends zero s few = absurd (omega arith)
up_to_ends (suc k) [] few = inl refl
up_to_ends (suc k) (b ∷ s) few =
    cond_elim (λ l. length (b ∷ l) < suc k → Ends (drop (length (b ∷ l)) (b ∷ s))) (parts b (get_or s 0 0)) {x = []}
    (λ e few. inr (eqb-true (get_or s 0 0) hash (and_right (eqb b lf) (eqb (get_or s 0 0) hash) e)))
    (λ e few. up_to_ends k s (omega arith))
    few

seen_first : (l b : List ℕ) → get_or ((l ++ (lf ∷ [])) ++ b) 0 0 ≡ get_or (l ++ (lf ∷ [])) 0 0
seen_first [] b = refl
seen_first (x ∷ l) b = refl

pub up_to_parted : (k : ℕ) (l b : List ℕ) → get_or b 0 0 ≡ hash → up_to k ((l ++ (lf ∷ [])) ++ b) ≡ up_to k (l ++ (lf ∷ []))
unfolding up_to
up_to_parted zero l b e = refl
up_to_parted (suc k) [] b e = last_up_to k b (inr e) ∙ sym (last_up_to k [] (inl refl))
up_to_parted (suc k) (x ∷ l) b e = rw (seen_first l b, up_to_parted k l b e)

one_up_to : (x : ℕ) (s : List ℕ) → up_to 1 (x ∷ s) ≡ x ∷ []
unfolding up_to
one_up_to x s = cond_elim (λ l. x ∷ l ≡ x ∷ []) (parts x (get_or s 0 0)) (λ e. refl) (λ e. refl)

pub up_to_long : (k : ℕ) (a b : List ℕ) → k ≤ length a → up_to k (a ++ b) ≡ up_to k a
unfolding up_to
up_to_long zero a b h = refl
up_to_long (suc k) [] b h = absurd (omega arith)
up_to_long (suc zero) (x ∷ []) b h = one_up_to x b ∙ sym (one_up_to x [])
up_to_long (suc (suc k)) (x ∷ []) b h = absurd (omega arith)
up_to_long (suc k) (x ∷ (y ∷ a)) b h = rw (up_to_long k (y ∷ a) b (omega arith))
