-- Decimal numbers, digit by digit from the last one on.
--
--   lowest k v l    == the k lowest digits of v, before l
--   length-lowest   == they are k
--   decimal_by_log  == one digit more than the logarithm, and one where there is none
--   decimal_lowest  == a number in decimal is its lowest digits, as many as it has
--   longest         == a number has ten digits at most
use Rattle.std.proofs.Common.{◌≡◌, ℕ, zero, suc, ◌+◌, ◌*◌, ◌/◌, ◌%◌, ◌^◌, ◌<◌, ◌≤◌, List, [], ◌∷◌, length, sym, refl, ap, ◌∙◌, pow-suc, lit≤, arith, le-ltb, lt-ltb}
use Rattle.std.specs.Prelude.{Option, Some, None, IfNone, IfSome}
use Rattle.std.specs.Option.{unwrap_or}
use Rattle.rules.proofs.Choice.{order}
use Rattle.formats.specs.Digits.{decimal, decimal_before}

pub lowest : ℕ → ℕ → List ℕ → List ℕ
lowest zero v l = l
lowest (suc k) v l = lowest k (v / 10) ((48 + v % 10) ∷ l)

pub lowest_none : (v : ℕ) (l : List ℕ) → lowest 0 v l ≡ l
unfolding lowest
lowest_none v l = refl

pub lowest_more : (k v : ℕ) (l : List ℕ) → lowest (suc k) v l ≡ lowest k (v / 10) ((48 + v % 10) ∷ l)
unfolding lowest
lowest_more k v l = refl

pub length-lowest : (k v : ℕ) (l : List ℕ) → length (lowest k v l) ≡ k + length l
unfolding lowest
length-lowest zero v l = omega arith
length-lowest (suc k) v l = omega (arith, length-lowest k (v / 10) ((48 + v % 10) ∷ l))

-- the definition, by the two sides of its test
before_last : (k v : ℕ) (l : List ℕ) → v < 10 → decimal_before (suc k) v l ≡ (48 + v) ∷ l
unfolding decimal_before
before_last k v l h = simp (lt-ltb v 10 h)

before_more : (k v : ℕ) (l : List ℕ) → 10 ≤ v → decimal_before (suc k) v l ≡ decimal_before k (v / 10) ((48 + v % 10) ∷ l)
unfolding decimal_before
before_more k v l h = simp (le-ltb v 10 h)

-- below ten one digit is left
one_left : (k v : ℕ) (l : List ℕ) → v < 10 → decimal_before (suc k) v l ≡ lowest 1 v l
unfolding lowest
one_left k v l h =
    let e : v % 10 ≡ v = omega arith in
    before_last k v l h ∙ rw e refl

ten_pos : (r : ℕ) → 1 ≤ 10 ^ r
ten_pos zero = lit≤ tt
ten_pos (suc r) = omega (arith, pow-suc 10 r, ten_pos r)

before_log : (k r v : ℕ) (l : List ℕ) → r ≤ k → (1 ≤ r → 10 ^ r ≤ v) → v < 10 ^ suc r → decimal_before (suc k) v l ≡ lowest (suc r) v l
before_log k zero v l h low high = one_left k v l (omega arith)
before_log zero (suc r) v l h low high = absurd (omega arith)
before_log (suc k) (suc r) v l h low high =
    let p : 10 ^ suc r ≡ 10 ^ r * 10 = pow-suc 10 r in
    let q : 10 ^ suc (suc r) ≡ 10 ^ suc r * 10 = pow-suc 10 (suc r) in
    let one : 1 ≤ 10 ^ r = ten_pos r in
    let from : 10 ^ suc r ≤ v = low (omega arith) in
    before_more (suc k) v l (omega arith)
    ∙ before_log k r (v / 10) ((48 + v % 10) ∷ l) (omega arith) (λ h. omega arith) (omega arith)
    ∙ sym (lowest_more (suc r) v l)

-- some number of digits
before_lowest : (k v : ℕ) (l : List ℕ) → v < 10 ^ suc k → (r : ℕ) × (decimal_before (suc k) v l ≡ lowest r v l)
before_lowest zero v l h = (1, one_left 0 v l (omega arith))
before_lowest (suc k) v l h =
    let q : 10 ^ suc (suc k) ≡ 10 ^ suc k * 10 = pow-suc 10 (suc k) in
    order 10 v
    (λ more.
    let rest = before_lowest k (v / 10) ((48 + v % 10) ∷ l) (omega arith) in
    (suc rest.0, before_more (suc k) v l more ∙ rest.1 ∙ sym (lowest_more rest.0 v l)))
    (λ last. (1, one_left (suc k) v l last))

pub decimal_lowest : (v : ℕ) → v < 2 ^ 32 → decimal v ≡ lowest (length (decimal v)) v []
decimal_lowest v h =
    let d = before_lowest 9 v [] (omega arith) in
    let size : d.0 ≡ length (decimal v) = omega (arith, ap length d.1, length-lowest d.0 v []) in
    d.1 ∙ ap (λ k. lowest k v []) size

log_size : (v r : ℕ) → r < 10 → (1 ≤ r → 10 ^ r ≤ v) → v < 10 ^ suc r → r + 1 ≡ length (decimal v)
log_size v r h low high =
    omega (arith, ap length (before_log 9 r v [] (omega arith) low high), length-lowest (suc r) v [])

pub decimal_by_log : (v : ℕ) (r : Option ℕ) → IfNone r (v ≡ 0) → IfSome r (λ k. 10 ^ k ≤ v) → IfSome r (λ k. v < 10 * 10 ^ k) → IfSome r (λ k. k < 10)
    → (unwrap_or r 0 + 1 ≡ length (decimal v)) × (unwrap_or r 0 + 1 ≤ 10)
decimal_by_log v None e low high h = (log_size v 0 (omega arith) (λ q. absurd (omega arith)) (omega arith), omega arith)
decimal_by_log v (Some r) e low high h = (log_size v r h (λ q. low) (omega (arith, pow-suc 10 r)), omega arith)

-- any number has at most as many digits as there is room for
before_shorter : (k v : ℕ) (l : List ℕ) → length (decimal_before k v l) ≤ k + length l
unfolding decimal_before
before_shorter zero v l = omega arith
before_shorter (suc k) v l =
    order 10 v
    (λ more. simp (before_more k v l more) (omega (arith, before_shorter k (v / 10) ((48 + v % 10) ∷ l))))
    (λ last. simp (before_last k v l last) (omega arith))

pub longest : (v : ℕ) → length (decimal v) ≤ 10
longest v = before_shorter 10 v []
