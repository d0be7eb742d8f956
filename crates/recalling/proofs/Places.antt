-- Where a block of a dump is cut.
--
--   NoneIn s k == no step ends before the last k bytes of s, which are kept, and its last byte
--   cut_found  == a block is cut where a step ends
--   cut_none   == a short one is kept
--   cut_all    == a block with a long step at its end is taken
use Prim.Native.Nat.{ℕ, zero, suc, ◌+◌, ◌-◌, ◌≤◌, ◌<◌}
use mathlib.Core.Path.{◌≡◌, refl, sym, ◌∙◌, ap}
use mathlib.Core.Bool.{true, false, ◌&&◌}
use mathlib.Core.List.{List, [], ◌∷◌, ◌++◌, append-nil}
use native.Mathlib.Omega.{arith}
use native.Mathlib.Nat.{add-zero}
use native.Mathlib.Numerals.{add-one}
use borrow.Author.Tests.{eqb-true}
use lib.Dec.{eqb}
use lib.ListN.{length, get_or, take, drop, length-drop, get_or-append, take-append-drop}
use lib.Seq.{take-suc, take-length, drop-length, get_or-drop}
use Rattle.rules.proofs.Choice.{either, order, and_left, and_right}
use Rattle.formats.specs.Digits.{lf}
use Rattle.waves.specs.Steps.{hash}
use Rattle.waves.specs.Reading.{up_to}
use Rattle.conversions.specs.Blocks.{StepEnds, nothing, between, BetweenSteps, whole, long}
use Rattle.recalling.specs.Cuts.{ends_at, CutAt}

-- an end of a step at i
module _ (s : List ℕ) (i : ℕ) (inside : i + 1 < length s) (e : ends_at s i ≡ true) where
  ends_lf : get_or s i 0 ≡ lf
  ends_lf = eqb-true (get_or s i 0) lf (and_left (eqb (get_or s i 0) lf) (eqb (get_or s (i + 1) 0) hash) e)

  ends_hash : get_or s (i + 1) 0 ≡ hash
  ends_hash = eqb-true (get_or s (i + 1) 0) hash (and_right (eqb (get_or s i 0) lf) (eqb (get_or s (i + 1) 0) hash) e)

  step_ends : (c : List ℕ) → StepEnds (take (i + 1) s) (drop (i + 1) s ++ c)
  step_ends c =
      between (take i s)
      (ap (λ k. take k s) (add-one i) ∙ take-suc s i 0 (omega arith) ∙ ap (λ (b : ℕ). take i s ++ (b ∷ [])) ends_lf)
      (get_or-append (drop (i + 1) s) c 0 0 (simp length-drop (omega arith)) ∙ get_or-drop (i + 1) s 0 0 ∙ ap (λ k. get_or s k 0) (add-zero (i + 1)) ∙ ends_hash)

-- that many bytes from the end on, no step ends
abbrev pub NoneIn : List ℕ → ℕ → Type 0
NoneIn s k = (i : ℕ) → length s ≤ i + k → i + 1 < length s → ends_at s i ≡ false

module _ (s : List ℕ) where
  pub none_yet : NoneIn s 1
  none_yet i h l = absurd (omega arith)

  pub one_more : (k : ℕ) → ends_at s (length s - k - 1) ≡ false → NoneIn s k → NoneIn s (k + 1)
  one_more k e none j h l =
      order (length s) (j + k) (λ g. none j g l) (λ g. let same : j ≡ length s - k - 1 = omega arith in rw same e)

  pub cut_found : (k : ℕ) → k < length s → k ≤ 104 → 1 ≤ k → ends_at s (length s - k - 1) ≡ true → CutAt s (length s - k)
  cut_found k inside few some e =
      let i : ℕ = length s - k - 1 in
      let at : length s - k ≡ i + 1 = omega arith in
      rw at
      (record {
        inside = omega arith;
        parted = record { between = λ c. whole (step_ends s i (omega arith) e c); few = simp length-drop (omega arith) };
      })

  pub cut_none : length s ≤ 104 → CutAt s 0
  cut_none h = record { inside = omega arith; parted = record { between = λ c. whole (nothing refl); few = h } }

-- what stands behind the first byte
tail_none : (b : ℕ) (s : List ℕ) → ((i : ℕ) → i + 1 < length (b ∷ s) → ends_at (b ∷ s) i ≡ false) → (i : ℕ) → i + 1 < length s → ends_at s i ≡ false
tail_none b s none i l =
    ap (λ j. eqb (get_or s i 0) lf && eqb (get_or s j 0) hash) (add-one i)
    ∙ sym (ap (λ j. eqb (get_or s i 0) lf && eqb (get_or (b ∷ s) j 0) hash) (add-one (suc i)))
    ∙ none (suc i) (omega arith)

-- where no step ends, its text goes on
full : (k : ℕ) (s : List ℕ) → k ≤ length s → ((i : ℕ) → i + 1 < length s → ends_at s i ≡ false) → length (up_to k s) ≡ k
unfolding up_to
full zero s h none = refl
full (suc k) [] h none = absurd (omega arith)
full (suc zero) (b ∷ []) h none = either (eqb b lf && false) (λ e. rw e) (λ e. rw e)
full (suc (suc k)) (b ∷ []) h none = absurd (omega arith)
full (suc k) (b ∷ a ∷ s) h none =
    rw (none 0 (omega arith)) (ap suc (full k (a ∷ s) (omega arith) (tail_none b (a ∷ s) none)))

module _ (s : List ℕ) where
  -- what stands from m on, where no step ends there
  drop_none : (m : ℕ) → ((i : ℕ) → m ≤ i → i + 1 < length s → ends_at s i ≡ false) → (i : ℕ) → i + 1 < length (drop m s) → ends_at (drop m s) i ≡ false
  drop_none m none i l =
      let at : m + (i + 1) ≡ m + i + 1 = omega arith in
      rw (get_or-drop m s i 0, get_or-drop m s (i + 1) 0, at) (none (m + i) (omega arith) (omega (arith, length-drop m s)))

  -- the last step begins where one ends for the last time, or at the start
  last_step : (m : ℕ) → m + 105 ≤ length s → ((i : ℕ) → m ≤ i → i + 1 < length s → ends_at s i ≡ false) → (c : List ℕ) → BetweenSteps s c
  last_step zero h none c = long [] s refl (nothing refl) (full 105 s (omega arith) (λ i l. none i (omega arith) l))
  last_step (suc m) h none c =
      either (ends_at s m)
      (λ e.
      let at = add-one m in
      long (take (suc m) s) (drop (suc m) s)
      (sym (take-append-drop (suc m) s))
      (rw (← append-nil (drop (suc m) s)) (rw at at (step_ends s m (omega arith) e [])))
      (full 105 (drop (suc m) s) (simp length-drop (omega arith)) (drop_none (suc m) none)))
      (λ e. last_step m (omega arith) (λ i g l. order (suc m) i (λ f. none i f l) (λ f. let same : i ≡ m = omega arith in rw same e)) c)

  pub cut_all : 105 ≤ length s → NoneIn s 105 → CutAt s (length s)
  cut_all h none =
      record {
        inside = omega arith;
        parted =
            rw (take-length s, drop-length s)
            (record {
              between = λ c. last_step (length s - 105) (omega arith) (λ i g l. none i (omega arith) l) c;
              few = omega arith;
            });
      }
