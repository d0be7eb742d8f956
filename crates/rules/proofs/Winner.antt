-- The walk's laws.
--
--   walk_none, walk_hit, walk_pass == the walk by its cases, for the loop that walks
--   winner_below == the winner is a master
--   winner_high  == the winner requests
--   winner_won   == where i requests there is a winner, and a winner other than i brings i's turn nearer
--   turns n g i  == how many decisions i can still lose with the grant at g
use Rattle.std.specs.Prelude.{None, Some}
use Prim.Native.Nat.{ℕ, zero, suc, ◌+◌, ◌-◌, ◌≤◌, ◌<◌}
use mathlib.Core.Path.{◌≡◌, refl, ◌∙◌, subst}
use mathlib.Core.Bool.{Bool, true, false}
use native.Mathlib.Omega.{arith}
use Rattle.rules.specs.Masks.{high}
use Rattle.rules.specs.Winner.{next, walk, winner}
use Rattle.rules.proofs.Choice.{differ}
use Rattle.rules.proofs.Round.{gap, gap_below, gap_self, gap_next, gap_through, next_below}

pub walk_none : (n m i : ℕ) → walk n m 0 i ≡ None
unfolding walk
walk_none n m i = refl

pub walk_hit : (n m k i : ℕ) → 0 < k → high m i ≡ true → walk n m k i ≡ Some i
unfolding walk
walk_hit n m zero i h e = absurd (omega arith)
walk_hit n m (suc k) i h e = rw e

pub walk_pass : (n m k i : ℕ) → 0 < k → high m i ≡ false → walk n m k i ≡ walk n m (k - 1) (next n i)
unfolding walk
walk_pass n m zero i h e = absurd (omega arith)
walk_pass n m (suc k) i h e =
    let p : suc k - 1 ≡ k = omega arith in
    rw (e, p)

-- where a walk from j ends: at a master that requests
pub record Ended (n m w : ℕ) : Type 0 where
  pub below : w < n
  pub requests : high m w ≡ true

pub walk_ended : (n m k j w : ℕ) → j < n → walk n m k j ≡ Some w → Ended n m w
unfolding walk
walk_ended n m zero j w h e = let z : ◌≡◌ {A = ℕ} 0 1 = cc in absurd (omega arith)
walk_ended n m (suc k) j w h e = go (high m j) refl (λ q. walk_ended n m k (next n j) w (next_below n j (omega arith)) q)
  where
    go : (t : Bool) → high m j ≡ t → (walk n m k (next n j) ≡ Some w → Ended n m w) → Ended n m w
    go true p later =
        let q : j ≡ w = (let r = simp p at e in cc) in
        record { below = omega arith; requests = subst (λ (z : ℕ). high m z ≡ true) q p }
    go false p later = later (simp p at e)

pub winner_ended : (n g m w : ℕ) → 0 < n → winner n g m ≡ Some w → Ended n m w
unfolding winner
winner_ended n g m w h e = walk_ended n m n (next n g) w (next_below n g h) e

-- where i requests and lies ahead, the walk ends at a requester that is no further than i
pub record Met (n m k j i : ℕ) : Type 0 where
  pub at : ℕ
  pub found : walk n m k j ≡ Some at
  pub ended : Ended n m at
  pub near : gap n j at ≤ gap n j i

pub walk_met : (n m k j i : ℕ) → j < n → i < n → high m i ≡ true → gap n j i < k → Met n m k j i
walk_met n m zero j i hj hi b h = absurd (omega arith)
walk_met n m (suc k) j i hj hi b h = go (high m j) refl (λ e. walk_met n m k (next n j) i (next_below n j (omega arith)) hi b e)
  where
    other : (w : ℕ) → high m w ≡ true → high m j ≡ false → j ≡ w → ⊥
    other w p q e = differ (high m w) p (subst (λ (z : ℕ). high m z ≡ false) e q)

    go : (t : Bool) → high m j ≡ t → (gap n (next n j) i < k → Met n m k (next n j) i) → Met n m (suc k) j i
    go true e later =
        record {
          at = j;
          found = walk_hit n m (suc k) j (omega arith) e;
          ended = record { below = hj; requests = e };
          near = omega (arith, gap_self n j);
        }
    go false e later =
        let gi = gap_next n j i hj hi (other i b e) in
        let r = later (omega arith) in
        let gw = gap_next n j r.at hj r.ended.below (other r.at r.ended.requests e) in
        let p : suc k - 1 ≡ k = omega arith in
        record {
          at = r.at;
          found = walk_pass n m (suc k) j (omega arith) e ∙ rw p r.found;
          ended = r.ended;
          near = omega arith;
        }

unfoldable pub turns : ℕ → ℕ → ℕ → ℕ
turns n g i = gap n (next n g) i

pub turns_below : (n g i : ℕ) → i < n → turns n g i < n
unfolding turns
turns_below n g i hi = gap_below n (next n g) i (next_below n g (omega arith)) hi

-- who is not granted can lose one decision less than all
pub turns_other : (n g i : ℕ) → g < n → i < n → (g ≡ i → ⊥) → turns n g i + 1 < n
unfolding turns
turns_other n g i hg hi ne = omega (arith, gap_next n g i hg hi ne, gap_below n g i hg hi)

pub record Won (n g m i : ℕ) : Type 0 where
  pub at : ℕ
  pub found : winner n g m ≡ Some at
  pub ended : Ended n m at
  pub nearer : (at ≡ i → ⊥) → turns n at i < turns n g i

pub winner_won : (n g m i : ℕ) → i < n → high m i ≡ true → Won n g m i
unfolding winner turns
winner_won n g m i hi b =
    let j = next n g in
    let hj = next_below n g (omega arith) in
    let r = walk_met n m n j i hj hi b (gap_below n j i hj hi) in
    let hw = r.ended.below in
    record {
      at = r.at;
      found = r.found;
      ended = r.ended;
      nearer = λ ne. omega (arith, gap_through n j r.at i hj hw hi r.near, gap_next n r.at i hw hi ne);
    }
