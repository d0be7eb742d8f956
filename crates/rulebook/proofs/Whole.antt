-- A whole trace, cycle by cycle.
--
--   charged_broken == one cycle of it: the rules charged are those broken
--   places         == at each place the judge charges what is broken there; charges_length == at no other place
--   ends_at        == the judge that it ends with is a word about its history
--   run_sound      == a well-formed judge stays so
--   run_of         == a well-formed judge takes every trace of valid cycles that its count has room for
--   run_limits     == and no other
use Rattle.std.specs.Prelude.{Ok}
use Prim.Native.Nat.{ℕ, zero, suc, ◌+◌, ◌≤◌, ◌<◌}
use mathlib.Core.Path.{◌≡◌, refl, ◌∙◌, ap}
use mathlib.Core.Bool.{Bool}
use mathlib.Core.List.{List, [], ◌∷◌, map}
use native.Mathlib.Omega.{arith}
use lib.ListN.{length, get_or}
use Rattle.rules.specs.declared.Cycle.{Cycle}
use Rattle.rules.specs.Codes.{most_cycles}
use Rattle.rules.specs.Valid.{cycle_check}
use Rattle.rulebook.specs.declared.Rule.{Rule}
use Rattle.rulebook.specs.declared.Judge.{Judge}
use Rattle.rulebook.specs.declared.Judgement.{Judgement}
use Rattle.rulebook.specs.Traces.{so_far_after, newest_first}
use Rattle.rulebook.specs.Rules.{rules, those, broken}
use Rattle.rulebook.specs.Charges.{next_judge, charges}
use Rattle.rulebook.specs.Step.{taken_of, judge_of, flagged, charged_rules, Judging, ends, takes, charges_in}
use Rattle.rulebook.specs.Kept.{kept_of, Sound}
use Rattle.rulebook.specs.Promises.{ValidTrace, Accepted}
use Rattle.rulebook.proofs.Exact.{kept_step, exact}
use Rattle.rulebook.proofs.Soundness.{step_sound}
use Rattle.rulebook.proofs.WellFormed.{test_of}
use Rattle.rulebook.proofs.Answers.{accepted, taken, next_verdict, next_judge_lem}

those_same : (f g : Rule → Bool) → ((r : Rule) → f r ≡ g r) → (l : List Rule) → those f l ≡ those g l
unfolding those
those_same f g e [] = refl
those_same f g e (r ∷ l) = rw (e r, those_same f g e l)

flagged_those : (f : Rule → Bool) (l : List Rule) → flagged (map f l) l ≡ those f l
unfolding flagged those
flagged_those f [] = refl
flagged_those f (r ∷ l) = rw (flagged_those f l)

module _ (n : ℕ) (pos : 0 < n) where
  -- from a word about the history h to one about c ∷ h
  kept_next : (j : Judge) (c : Cycle) (h : List Cycle) → Accepted j c → j ≡ kept_of n h → (judge_of j c).judge ≡ kept_of n (c ∷ h)
  kept_next j c h a e = next_judge_lem j c a ∙ ap (λ (k : Judge). next_judge k c) e ∙ kept_step n h c pos

  charged_broken : (j : Judge) (c : Cycle) (h : List Cycle) → Accepted j c → j ≡ kept_of n h
      → charged_rules (judge_of j c) ≡ those (λ r. broken n r (c ∷ h)) rules
  unfolding taken_of
  charged_broken j c h a e =
      ap (λ (a : Judgement). charged_rules a) a.is
      ∙ flagged_those (charges j c) rules
      ∙ those_same (charges j c) (λ r. broken n r (c ∷ h)) (λ r. ap (λ (k : Judge). charges k c r) e ∙ exact n h c pos r) rules

  pub places : {j k : Judge} {l : List Cycle} (d : Judging j l k) (h : List Cycle) → j ≡ kept_of n h
      → (t : ℕ) → t < length l → get_or (charges_in d) t [] ≡ those (λ r. broken n r (so_far_after h l t)) rules
  unfolding charges_in so_far_after
  places ends h e t below = absurd (omega arith)
  places (takes {j = j} {c = c} p r) h e zero below = charged_broken j c h (taken j c p) e
  places (takes {j = j} {c = c} p r) h e (suc t) below =
      places r (c ∷ h) (kept_next j c h (taken j c p) e) t (omega arith)

  pub ends_at : {j k : Judge} {l : List Cycle} → Judging j l k → (h : List Cycle) → j ≡ kept_of n h → k ≡ kept_of n (newest_first h l)
  unfolding newest_first
  ends_at ends h e = e
  ends_at (takes {j = j} {c = c} p r) h e = ends_at r (c ∷ h) (kept_next j c h (taken j c p) e)

pub charges_length : {j k : Judge} {l : List Cycle} (d : Judging j l k) → length (charges_in d) ≡ length l
unfolding charges_in
charges_length ends = refl
charges_length (takes p r) = ap suc (charges_length r)

next_sound : (j : Judge) (c : Cycle) → Accepted j c → Sound j → Sound (judge_of j c).judge
next_sound j c a s = rw (next_judge_lem j c a) (step_sound j c s a.good a.room)

pub run_sound : {j k : Judge} {l : List Cycle} → Judging j l k → Sound j → Sound k
run_sound ends s = s
run_sound (takes {j = j} {c = c} p r) s = run_sound r (next_sound j c (taken j c p) s)

-- the limits of a run: the count has room, and each cycle is valid
next_count : (j : Judge) (c : Cycle) → Accepted j c → (judge_of j c).judge.count ≡ j.count + 1
unfolding next_judge
next_count j c a = ap (λ (k : Judge). k.count) (next_judge_lem j c a)

next_n : (j : Judge) (c : Cycle) → Accepted j c → (judge_of j c).judge.n ≡ j.n
unfolding next_judge
next_n j c a = ap (λ (k : Judge). k.n) (next_judge_lem j c a)

pub run_of : (l : List Cycle) (j : Judge) → Sound j → j.count + length l ≤ most_cycles → ValidTrace j.n l → (k : Judge) × Judging j l k
run_of [] j s room valid = (j, ends)
run_of (c ∷ l) j s room valid =
    let a = accepted j c (test_of j s) (omega arith) (valid 0 (omega arith)) in
    let r =
    run_of l (judge_of j c).judge (next_sound j c a s) (omega (arith, next_count j c a))
    (λ t below. rw (next_n j c a) (valid (suc t) (omega arith))) in
    (r.0, takes (next_verdict j c a) r.1)

valid_more : (n : ℕ) (c : Cycle) (l : List Cycle) → cycle_check n c ≡ Ok tt → ValidTrace n l → ValidTrace n (c ∷ l)
valid_more n c l good valid zero below = good
valid_more n c l good valid (suc t) below = valid t (omega arith)

pub run_limits : {j k : Judge} {l : List Cycle} → Judging j l k → Sound j → (j.count + length l ≤ most_cycles) × ValidTrace j.n l
run_limits {j} ends s = (omega (arith, s.room), λ t below. absurd (omega arith))
run_limits (takes {j = j} {c = c} {l = l} p r) s =
    let a = taken j c p in
    let q = run_limits r (next_sound j c a s) in
    (omega (arith, q.0, next_count j c a), valid_more j.n c l a.good (rw (next_n j c a) at q.1))
