-- An input that begins with given bytes.
--
--   begins_append == what stands first is what the input begins with
--   begins_split  == an input that begins with t is t and the rest
--   begins_other  == an input whose first byte is another does not
use Prim.Native.Nat.{ℕ, ◌<◌}
use mathlib.Core.Path.{◌≡◌, refl, ap₂}
use mathlib.Core.Bool.{true, false, false≢true}
use mathlib.Core.List.{List, [], ◌∷◌, ◌++◌}
use native.Mathlib.Omega.{arith}
use borrow.Author.Tests.{eqb-true, eq-eqb}
use lib.Dec.{eqb}
use lib.ListN.{length, get_or, drop}
use Rattle.rules.proofs.Choice.{either, and_left, and_right, and_both}
use Rattle.waves.specs.Header.{begins}

pub begins_append : (t r : List ℕ) → begins (t ++ r) t ≡ true
unfolding begins
begins_append [] r = refl
begins_append (b ∷ t) r = and_both (eq-eqb b b refl) (begins_append t r)

pub begins_split : (s t : List ℕ) → begins s t ≡ true → s ≡ t ++ drop (length t) s
unfolding begins
begins_split s [] e = refl
begins_split [] (b ∷ t) e = absurd (false≢true e)
begins_split (a ∷ s) (b ∷ t) e =
    ap₂ ◌∷◌ (eqb-true a b (and_left (eqb a b) (begins s t) e)) (begins_split s t (and_right (eqb a b) (begins s t) e))

begins_head : (s t : List ℕ) → 0 < length t → begins s t ≡ true → get_or s 0 0 ≡ get_or t 0 0
unfolding begins
begins_head s [] h e = absurd (omega arith)
begins_head [] (b ∷ t) h e = absurd (false≢true e)
begins_head (a ∷ s) (b ∷ t) h e = eqb-true a b (and_left (eqb a b) (begins s t) e)

pub begins_other : (s t : List ℕ) → 0 < length t → (get_or s 0 0 ≡ get_or t 0 0 → ⊥) → begins s t ≡ false
begins_other s t some other = either (begins s t) (λ e. absurd (other (begins_head s t some e))) (λ e. e)
