-- Where a step ends, byte by byte.
--
--   Ending s i == the step that s begins with has the first i bytes, and then some more
--   ended_at, ending_on, ended_whole == it ends behind the byte at i; it goes on; and it has all bytes that are looked at
--   step_taken == a step is the bytes up to its end
use Rattle.std.proofs.Common.{◌≡◌, ℕ, zero, suc, ◌+◌, ◌-◌, ◌<◌, ◌≤◌, min, Bool, true, false, cond, ◌&&◌, eqb, List, [], ◌∷◌, length, get_or, take, drop, sym, refl, ap, ◌∙◌, zero-add, arith}
use lib.ListN.{drop_of_length-le}
use Rattle.rules.proofs.Choice.{order}
use Rattle.waves.specs.Reading.{up_to, step_text}
use Rattle.scans.proofs.Unknown.{here, first_there}

-- the bytes of a step from one byte on
up_here : (k b n : ℕ) (s : List ℕ) (f : Bool) → 0 < k → n ≡ get_or s 0 0 → (eqb b 10 && eqb n 35) ≡ f
    → length (up_to k (b ∷ s)) ≡ suc (length (cond f [] (up_to (k - 1) s)))
unfolding up_to
up_here zero b n s f h e t = absurd (omega arith)
up_here (suc k) b n s f h e t = let q : suc k - 1 ≡ k = omega arith in rw (q, ← e, t)

up_none : (k : ℕ) → length (up_to k []) ≡ 0
unfolding up_to
up_none zero = refl
up_none (suc k) = refl

up_zero : (k : ℕ) (s : List ℕ) → k ≤ 0 → length (up_to k s) ≡ 0
unfolding up_to
up_zero zero s h = refl
up_zero (suc k) s h = absurd (omega arith)

pub record Ending (s : List ℕ) (i : ℕ) : Type 0 where
  pub end : length (step_text s) ≡ i + length (up_to (105 - i) (drop i s))

pub ending_start : (s : List ℕ) → Ending s 0
ending_start s = record { end = sym (zero-add (length (up_to 105 s))) }

module _ (s : List ℕ) (i : ℕ) (e : Ending s i) where
  pub ended_whole : i ≡ min (length s) 105 → i ≡ length (step_text s)
  ended_whole h =
      order (length s) i
      (λ a. let z : length (up_to (105 - i) (drop i s)) ≡ 0 = rw (drop_of_length-le s a) (up_none (105 - i)) in omega (arith, e.end))
      (λ b. omega (arith, e.end, up_zero (105 - i) (drop i s) (omega arith)))

  module _ (few : i < 105) (more : i < length s) (next : ℕ) (follows : next ≡ get_or s (i + 1) 0) where
    one_more : (f : Bool) → (eqb (get_or s i 0) 10 && eqb next 35) ≡ f
        → length (up_to (105 - i) (drop i s)) ≡ suc (length (cond f [] (up_to (105 - i - 1) (drop (i + 1) s))))
    one_more f t =
        let n : next ≡ get_or (drop (i + 1) s) 0 0 = follows ∙ sym (first_there s (i + 1)) in
        rw (here s i more) (up_here (105 - i) (get_or s i 0) next (drop (i + 1) s) f (omega arith) n t)

    pub ended_at : (eqb (get_or s i 0) 10 && eqb next 35) ≡ true → i + 1 ≡ length (step_text s)
    ended_at t = omega (arith, e.end, one_more true t)

    pub ending_on : (eqb (get_or s i 0) 10 && eqb next 35) ≡ false → Ending s (i + 1)
    ending_on t = let k : 105 - i - 1 ≡ 105 - (i + 1) = omega arith in record { end = omega (arith, e.end, rw k at (one_more false t)) }

pub step_taken : (k : ℕ) (s : List ℕ) → take (length (up_to k s)) s ≡ up_to k s
unfolding up_to
step_taken zero s = refl
step_taken (suc k) [] = refl
step_taken (suc k) (b ∷ s) = ap (λ l. b ∷ l) (go (eqb b 10 && eqb (get_or s 0 0) 35) (step_taken k s))
  where
    go : (f : Bool) → take (length (up_to k s)) s ≡ up_to k s → take (length (cond f [] (up_to k s))) s ≡ cond f [] (up_to k s)
    go true e = refl
    go false e = e
