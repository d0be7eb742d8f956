-- Masks compared as a whole instead of master by master, once, over the number of masters.
--
--   high_and, high_or, high_xor == a bit of a & b, of a | b, of a ^ b
--   high_without == a bit of the mask of those in a and not in b
--   masks_differ == two masks below 2 ^ k differ where some bit below k does
--   some_common  == some master is in both masks: a & b is not 0
--   some_first   == some number below k + 1: 0, or one after it
--   some_outside == some master is in a and not in b: a & b is not a
use Prim.Native.Nat.{ℕ, zero, suc, ◌+◌, ◌*◌, ◌/◌, ◌%◌, ◌^◌, ◌<◌, min, max}
use mathlib.Core.Path.{◌≡◌, refl, sym, ◌∙◌, ap, fun_ext}
use mathlib.Core.Bool.{Bool, true, false, not, ◌&&◌, ◌||◌, beq}
use native.Mathlib.Omega.{arith}
use native.Mathlib.Nat.{pow-suc}
use borrow.Author.Tests.{eqb-true, eqb-false, eq-eqb, ne_eqb}
use lib.Dec.{eqb}
use lib.Bits.{bit_and, bit_or, bit_xor, differ, and_step, or_step, xor_step, and_shr, or_shr, xor_shr, and_le_l}
use lib.Pow.{pow_pos}
use Rattle.rules.specs.Masks.{high}
use Rattle.rules.proofs.Choice.{either}
use Rattle.rules.proofs.Masks.{high_half, high_of_zero}
use Rattle.rulebook.specs.Columns.{some_below}

-- what holds of the four pairs of binary digits holds of any two
digits : (P : ℕ → ℕ → Type 0) → P 0 0 → P 0 1 → P 1 0 → P 1 1 → (d e : ℕ) → d < 2 → e < 2 → P d e
digits P a b c r zero zero g h = a
digits P a b c r zero (suc zero) g h = b
digits P a b c r (suc zero) zero g h = c
digits P a b c r (suc zero) (suc zero) g h = r
digits P a b c r zero (suc (suc e)) g h = absurd (omega arith)
digits P a b c r (suc zero) (suc (suc e)) g h = absurd (omega arith)
digits P a b c r (suc (suc d)) e g h = absurd (omega arith)

-- an operation that works digit by digit: f on digits, g on flags
module _ (op f : ℕ → ℕ → ℕ) (g : Bool → Bool → Bool)
    (step : (a b : ℕ) → op a b ≡ op (a / 2) (b / 2) * 2 + f (a % 2) (b % 2))
    (shifted : (a b k : ℕ) → op a b / 2 ^ k ≡ op (a / 2 ^ k) (b / 2 ^ k))
    (digit : (d e : ℕ) → d < 2 → e < 2 → f d e < 2)
    (flag : (d e : ℕ) → d < 2 → e < 2 → eqb (f d e) 1 ≡ g (eqb d 1) (eqb e 1)) where
  lowest : (a b : ℕ) → eqb (op a b % 2) 1 ≡ g (eqb (a % 2) 1) (eqb (b % 2) 1)
  lowest a b =
      let h : f (a % 2) (b % 2) < 2 = digit (a % 2) (b % 2) (omega arith) (omega arith) in
      let e : op a b % 2 ≡ f (a % 2) (b % 2) = omega (arith, step a b) in
      rw e (flag (a % 2) (b % 2) (omega arith) (omega arith))

  high_by : (a b i : ℕ) → high (op a b) i ≡ g (high a i) (high b i)
  unfolding high
  high_by a b i = rw (shifted a b i) (lowest (a / 2 ^ i) (b / 2 ^ i))

pub high_and : (a b i : ℕ) → high (bit_and a b) i ≡ (high a i && high b i)
high_and =
    high_by bit_and min ◌&&◌ and_step and_shr
    (digits (λ d e. min d e < 2) (omega arith) (omega arith) (omega arith) (omega arith))
    (digits (λ d e. eqb (min d e) 1 ≡ (eqb d 1 && eqb e 1)) refl refl refl refl)

pub high_or : (a b i : ℕ) → high (bit_or a b) i ≡ (high a i || high b i)
high_or =
    high_by bit_or max ◌||◌ or_step or_shr
    (digits (λ d e. max d e < 2) (omega arith) (omega arith) (omega arith) (omega arith))
    (digits (λ d e. eqb (max d e) 1 ≡ (eqb d 1 || eqb e 1)) refl refl refl refl)

pub high_xor : (a b i : ℕ) → high (bit_xor a b) i ≡ not (beq (high a i) (high b i))
high_xor =
    high_by bit_xor differ (λ x y. not (beq x y)) xor_step xor_shr
    (digits (λ d e. differ d e < 2) (omega arith) (omega arith) (omega arith) (omega arith))
    (digits (λ d e. eqb (differ d e) 1 ≡ not (beq (eqb d 1) (eqb e 1))) refl refl refl refl)

pub high_without : (a b i : ℕ) → high (bit_xor (bit_and a b) a) i ≡ (high a i && not (high b i))
high_without a b i = rw (high_xor (bit_and a b) a i, high_and a b i) (law (high a i) (high b i))
  where
    law : (x y : Bool) → not (beq (x && y) x) ≡ (x && not y)
    law true true = refl
    law true false = refl
    law false y = refl

pub some_same : (k : ℕ) (f g : ℕ → Bool) → ((i : ℕ) → f i ≡ g i) → some_below k f ≡ some_below k g
some_same k f g h = ap (some_below k) (fun_ext h)

or_assoc : (a b c : Bool) → (a || b || c) ≡ (a || (b || c))
or_assoc true b c = refl
or_assoc false b c = refl

or_none_lem : (a : Bool) → a ≡ (a || false)
or_none_lem true = refl
or_none_lem false = refl

pub some_first : (k : ℕ) (f : ℕ → Bool) → some_below (suc k) f ≡ (f 0 || some_below k (λ i. f (suc i)))
unfolding some_below
some_first zero f = or_none_lem (f 0)
some_first (suc k) f = rw (some_first k f) (or_assoc (f 0) (some_below k (λ i. f (suc i))) (f (suc k)))

same_eqb : (a b c d : ℕ) → (a ≡ b → c ≡ d) → (c ≡ d → a ≡ b) → eqb a b ≡ eqb c d
same_eqb a b c d f g =
    either (eqb a b)
    (λ e. e ∙ sym (eq-eqb c d (f (eqb-true a b e))))
    (λ e. e ∙ sym (ne_eqb c d (λ q. eqb-false a b e (g q))))

abbrev differs : Bool → Bool → Bool
differs a b = not (beq a b)

digits_differ : (p q d e : ℕ) → d < 2 → e < 2 → not (eqb (p * 2 + d) (q * 2 + e)) ≡ (differs (eqb d 1) (eqb e 1) || not (eqb p q))
digits_differ p q =
    digits (λ d e. not (eqb (p * 2 + d) (q * 2 + e)) ≡ (differs (eqb d 1) (eqb e 1) || not (eqb p q)))
    (ap not (same_eqb (p * 2 + 0) (q * 2 + 0) p q (λ h. omega arith) (λ h. omega arith)))
    (ap not (ne_eqb (p * 2 + 0) (q * 2 + 1) (λ h. omega arith)))
    (ap not (ne_eqb (p * 2 + 1) (q * 2 + 0) (λ h. omega arith)))
    (ap not (same_eqb (p * 2 + 1) (q * 2 + 1) p q (λ h. omega arith) (λ h. omega arith)))

halves : (a b : ℕ) → not (eqb a b) ≡ (differs (high a 0) (high b 0) || not (eqb (a / 2) (b / 2)))
unfolding high
halves a b =
    let p : a / 2 * 2 + a % 2 ≡ a = omega arith in
    let q : b / 2 * 2 + b % 2 ≡ b = omega arith in
    let r : a / 1 ≡ a = omega arith in
    let s : b / 1 ≡ b = omega arith in
    rw (r, s) (simp (p, q) at (digits_differ (a / 2) (b / 2) (a % 2) (b % 2) (omega arith) (omega arith)))

pub masks_differ : (k a b : ℕ) → a < 2 ^ k → b < 2 ^ k → not (eqb a b) ≡ some_below k (λ i. differs (high a i) (high b i))
unfolding some_below
masks_differ zero a b h g =
    let p : a ≡ 0 = omega arith in
    let q : b ≡ 0 = omega arith in
    rw (p, q)
masks_differ (suc k) a b h g =
    let p : a < 2 ^ k * 2 = rw pow-suc at h in
    let q : b < 2 ^ k * 2 = rw pow-suc at g in
    halves a b
    ∙ ap (λ (t : Bool). differs (high a 0) (high b 0) || t) (masks_differ k (a / 2) (b / 2) (omega arith) (omega arith) ∙ some_same k _ _ (λ i. rw (← high_half a i, ← high_half b i)))
    ∙ sym (some_first k (λ i. differs (high a i) (high b i)))

-- the mask of no master is 0
pub some_common : (k a b : ℕ) → a < 2 ^ k → some_below k (λ i. high a i && high b i) ≡ not (eqb (bit_and a b) 0)
some_common k a b h =
    some_same k _ _ (λ i. rw (high_and a b i, high_of_zero i) (alone (high a i && high b i)))
    ∙ sym (masks_differ k (bit_and a b) 0 (omega (arith, and_le_l a b)) (pow_pos k))
  where
    alone : (x : Bool) → x ≡ differs x false
    alone true = refl
    alone false = refl

pub some_outside : (k a b : ℕ) → a < 2 ^ k → some_below k (λ i. high a i && not (high b i)) ≡ not (eqb (bit_and a b) a)
some_outside k a b h =
    some_same k _ _ (λ i. rw (high_and a b i) (left (high a i) (high b i)))
    ∙ sym (masks_differ k (bit_and a b) a (omega (arith, and_le_l a b)) h)
  where
    left : (x y : Bool) → (x && not y) ≡ differs (x && y) x
    left true true = refl
    left true false = refl
    left false y = refl
