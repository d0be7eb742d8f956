-- The masters stand in a ring: next n walks round it, and gap n j i is how far it is from j to i.
--
--   next_below  == the next master is a master
--   gap_below   == no master is further than n - 1
--   gap_next    == a step round brings every other master one nearer
--   gap_through == what lies on the way splits the distance
--   gap_to_last == the last met on the walk from the one after g is g itself
use Prim.Native.Nat.{ℕ, ◌+◌, ◌-◌, ◌≤◌, ◌<◌}
use mathlib.Core.Path.{◌≡◌}
use mathlib.Core.Bool.{cond}
use native.Mathlib.Omega.{arith}
use borrow.Author.Tests.{le-leb, lt-leb, lt-ltb, le-ltb}
use lib.Dec.{leb}
use Rattle.rules.specs.Winner.{next}
use Rattle.rules.proofs.Choice.{order}

unfoldable pub gap : ℕ → ℕ → ℕ → ℕ
gap n j i = cond (leb j i) (i - j) (i + n - j)

pub gap_ahead : (n j i : ℕ) → j ≤ i → gap n j i ≡ i - j
unfolding gap
gap_ahead n j i h = rw (le-leb j i h)

pub gap_behind : (n j i : ℕ) → i < j → gap n j i ≡ i + n - j
unfolding gap
gap_behind n j i h = rw (lt-leb j i h)

pub next_up : (n j : ℕ) → j + 1 < n → next n j ≡ j + 1
unfolding next
next_up n j h = rw (lt-ltb (j + 1) n h)

pub next_round : (n j : ℕ) → n ≤ j + 1 → next n j ≡ 0
unfolding next
next_round n j h = rw (le-ltb (j + 1) n h)

pub next_below : (n j : ℕ) → 0 < n → next n j < n
next_below n j h =
    order (j + 2) n (λ p. rw (next_up n j (omega arith)) (omega arith)) (λ p. rw (next_round n j (omega arith)) h)

-- also where j is no master: the next one is below any bound of n
pub next_within : (n j k : ℕ) → n ≤ k → 0 < k → next n j < k
next_within n j k h p =
    order (j + 2) n (λ q. rw (next_up n j (omega arith)) (omega arith)) (λ q. rw (next_round n j (omega arith)) p)

pub gap_below : (n j i : ℕ) → j < n → i < n → gap n j i < n
gap_below n j i hj hi = order j i (λ p. omega (arith, gap_ahead n j i p)) (λ p. omega (arith, gap_behind n j i p))

pub gap_self : (n j : ℕ) → gap n j j ≡ 0
gap_self n j = omega (arith, gap_ahead n j j (omega arith))

pub gap_next : (n j i : ℕ) → j < n → i < n → (j ≡ i → ⊥) → gap n j i ≡ gap n (next n j) i + 1
gap_next n j i hj hi ne =
    order (j + 2) n
    (λ up.
    rw (next_up n j (omega arith))
    (order j i
    (λ q. omega (arith, gap_ahead n j i q, gap_ahead n (j + 1) i (omega arith)))
    (λ q. omega (arith, gap_behind n j i q, gap_behind n (j + 1) i (omega arith)))))
    (λ over.
    rw (next_round n j (omega arith))
    (omega (arith, gap_behind n j i (omega arith), gap_ahead n 0 i (omega arith))))

pub gap_through : (n j w i : ℕ) → j < n → w < n → i < n → gap n j w ≤ gap n j i → gap n j i ≡ gap n j w + gap n w i
gap_through n j w i hj hw hi h =
    order j i
    (λ p. order j w
    (λ q. order w i
    (λ r. omega (arith, gap_ahead n j i p, gap_ahead n j w q, gap_ahead n w i r))
    (λ r. omega (arith, gap_ahead n j i p, gap_ahead n j w q, gap_behind n w i r)))
    (λ q. omega (arith, gap_ahead n j i p, gap_behind n j w q)))
    (λ p. order j w
    (λ q. order w i
    (λ r. omega (arith, gap_behind n j i p, gap_ahead n j w q, gap_ahead n w i r))
    (λ r. omega (arith, gap_behind n j i p, gap_ahead n j w q, gap_behind n w i r)))
    (λ q. order w i
    (λ r. omega (arith, gap_behind n j i p, gap_behind n j w q, gap_ahead n w i r))
    (λ r. omega (arith, gap_behind n j i p, gap_behind n j w q, gap_behind n w i r))))

pub gap_to_last : (n g : ℕ) → g < n → gap n (next n g) g ≡ n - 1
gap_to_last n g h =
    order (g + 2) n
    (λ up. rw (next_up n g (omega arith)) (omega (arith, gap_behind n (g + 1) g (omega arith))))
    (λ over. rw (next_round n g (omega arith)) (omega (arith, gap_ahead n 0 g (omega arith))))
