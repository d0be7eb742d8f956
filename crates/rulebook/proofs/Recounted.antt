-- The statements of specs/Recounted.antt, each by the law of its name, and its rows.
--
--   form_same, charges_same, lost_same == what a judge that has taken a cycle does with another count
--   judged_same     == one step with another count
--   recounted_sound == another count leaves a judge well formed
use Rattle.std.specs.Prelude.{Err, Ok}
use Prim.Native.Nat.{ℕ, suc, ◌+◌, ◌≤◌, ◌<◌}
use mathlib.Core.Path.{◌≡◌, refl, sym, ◌∙◌, ap}
use mathlib.Core.Bool.{Bool, true, false}
use mathlib.Core.List.{List, [], ◌∷◌, map}
use native.Mathlib.Omega.{arith}
use borrow.Author.Tests.{le-leb, lt-leb, ne_eqb}
use lib.Dec.{eqb}
use Rattle.rules.specs.Results.{Check}
use Rattle.rules.specs.declared.Cycle.{Cycle}
use Rattle.rules.specs.Codes.{burst_of, most_masters, most_cycles}
use Rattle.rules.specs.Masks.{high}
use Rattle.rules.specs.Valid.{inputs_too_large, outputs_too_large, inputs_not_built, inputs_absent, cycle_check}
use Rattle.rulebook.specs.declared.Rule.{Rule}
use Rattle.rulebook.specs.declared.Rule.TheVariants.{A1, A2, A3, A4, A5, A6, A7, A8, A9, G1, G2, G3, G4, G5, G6, G7, G8, G9, G10, G11, G12}
use Rattle.rulebook.specs.declared.Judge.{Judge}
use Rattle.rulebook.specs.Columns.{owners_request, handover, some_below}
use Rattle.rulebook.specs.Traces.{opens}
use Rattle.rulebook.specs.Rules.{locked_incr, is_watched, rules, broken}
use Rattle.rulebook.specs.State.{start_judge, counts_ok, starts_out, well_formed}
use Rattle.rulebook.specs.Charges.{opened_after, watch_after, lost_after, next_judge, charges}
use Rattle.rulebook.specs.Step.{refused_of, taken_of, checked_of, judge_of}
use Rattle.rulebook.specs.Named.{mask_of}
use Rattle.rulebook.specs.Kept.{kept_of, Sound}
use Rattle.rulebook.specs.Promises.{ValidTrace}
use Rattle.rulebook.specs.Recounted.{with_count, DifferInCount, JudgeCountOnlyCounts, ExactAtAnyLength, counted, rows, wanted}
use Rattle.rulebook.proofs.Counts.{list_same}
use Rattle.rulebook.proofs.Exact.{kept_start, kept_step, exact}
use Rattle.rulebook.proofs.Soundness.{start_sound, step_sound}
use Rattle.rulebook.proofs.WellFormed.{test_of}
use Rattle.rulebook.proofs.Answers.{accepted}

map_same : (f g : Rule → Bool) → ((r : Rule) → f r ≡ g r) → (l : List Rule) → map f l ≡ map g l
map_same f g e [] = refl
map_same f g e (r ∷ l) = rw (e r, map_same f g e l)

-- a count from 1 on is not 0
begun : (k : ℕ) → 1 ≤ k → eqb k 0 ≡ false
begun k h = ne_eqb k 0 (λ e. omega arith)

-- a judge that has taken a cycle, and another count from 1 on
module _ (j : Judge) (k : ℕ) (some : 1 ≤ j.count) (more : 1 ≤ k) where
  form_same : j.count ≤ most_cycles → k ≤ most_cycles → well_formed (with_count k j) ≡ well_formed j
  unfolding well_formed
  form_same h i =
      simp (le-leb j.count 1000000 h, le-leb k 1000000 i, begun j.count some, begun k more)

  module _ (c : Cycle) where
    charges_same : (r : Rule) → charges (with_count k j) c r ≡ charges j c r
    unfolding charges
    charges_same A1 = refl
    charges_same A2 = refl
    charges_same A3 = rw (begun j.count some, begun k more)
    charges_same A4 = rw (begun j.count some, begun k more)
    charges_same A5 = rw (begun j.count some, begun k more)
    charges_same A6 = rw (begun j.count some, begun k more)
    charges_same A7 = rw (begun j.count some, begun k more)
    charges_same A8 = refl
    charges_same A9 = rw (begun j.count some, begun k more)
    charges_same G1 = refl
    charges_same G2 = refl
    charges_same G3 = refl
    charges_same G4 = rw (begun j.count some, begun k more)
    charges_same G5 = rw (begun j.count some, begun k more)
    charges_same G6 = rw (begun j.count some, begun k more)
    charges_same G7 = rw (begun j.count some, begun k more)
    charges_same G8 = rw (begun j.count some, begun k more)
    charges_same G9 = rw (begun j.count some, begun k more)
    charges_same G10 = rw (begun j.count some, begun k more)
    charges_same G11 = rw (begun j.count some, begun k more)
    charges_same G12 = rw (begun j.count some, begun k more)

    lost_same : (i : ℕ) → lost_after (with_count k j) c i ≡ lost_after j c i
    unfolding lost_after
    lost_same i = rw (begun j.count some, begun k more)

    next_same : next_judge (with_count k j) c ≡ with_count (k + 1) (next_judge j c)
    unfolding next_judge opened_after watch_after
    next_same = rw (list_same 0 16 (lost_after (with_count k j) c) (lost_after j c) (λ i below. lost_same i))

    taken_same : taken_of (with_count k j) c
        ≡ record { judge = with_count (k + 1) (taken_of j c).judge; verdict = Ok tt; charged = (taken_of j c).charged }
    unfolding taken_of
    taken_same = rw (next_same, map_same (charges (with_count k j) c) (charges j c) charges_same rules)

    -- the answers of a step that finds the judge well formed and the count below the limit, by the check of the cycle
    checked_same : (f : Check) → ((checked_of f (with_count k j) c).verdict ≡ (checked_of f j c).verdict)
        × ((checked_of f (with_count k j) c).charged ≡ (checked_of f j c).charged)
        × DifferInCount (checked_of f (with_count k j) c).judge (checked_of f j c).judge
    unfolding taken_of refused_of
    checked_same (Ok _) = (
      refl,
      map_same (charges (with_count k j) c) (charges j c) charges_same rules,
      ap (with_count 0) next_same,
    )
    checked_same (Err r) = (refl, refl, refl)

    judged_same : j.count < most_cycles → k < most_cycles
        → ((judge_of (with_count k j) c).verdict ≡ (judge_of j c).verdict)
        × ((judge_of (with_count k j) c).charged ≡ (judge_of j c).charged)
        × DifferInCount (judge_of (with_count k j) c).judge (judge_of j c).judge
    unfolding judge_of refused_of
    judged_same h i = go (well_formed j) refl
      where
        go : (f : Bool) → well_formed j ≡ f
            → ((judge_of (with_count k j) c).verdict ≡ (judge_of j c).verdict)
            × ((judge_of (with_count k j) c).charged ≡ (judge_of j c).charged)
            × DifferInCount (judge_of (with_count k j) c).judge (judge_of j c).judge
        go true e =
            let f = form_same (omega arith) (omega arith) ∙ e in
            simp (e, f, lt-leb 1000000 j.count h, lt-leb 1000000 k i) (checked_same (cycle_check j.n c))
        go false e = let f = form_same (omega arith) (omega arith) ∙ e in simp (e, f) (refl, refl, refl)

pub judge_count_only_counts : JudgeCountOnlyCounts
judge_count_only_counts j k c same some room more below =
    let e : with_count j.count k ≡ j = ap (with_count j.count) (sym same) in
    rw e at (judged_same k j.count more some c below room)

-- a well-formed judge with another count from 1 on
recounted_sound : (j : Judge) (k : ℕ) → Sound j → 1 ≤ k → k ≤ most_cycles → Sound (with_count k j)
recounted_sound j k s more room =
    record {
      few = s.few;
      many = s.many;
      room = room;
      previous = s.previous;
      locked = s.locked;
      waited = s.waited;
      size = s.size;
      lost = s.lost;
      absent = s.absent;
      watch = s.watch;
      start = λ e. absurd (omega arith);
    }

kept_some : (n : ℕ) (p : Cycle) (h : List Cycle) → 1 ≤ (kept_of n (p ∷ h)).count
unfolding kept_of
kept_some n p h = omega arith

module _ (n : ℕ) (few : 2 ≤ n) (many : n ≤ most_masters) where
  -- the judge of a valid history, with a count from 1 on
  kept_sound : (p : Cycle) (h : List Cycle) → ValidTrace n (p ∷ h) → (k : ℕ) → 1 ≤ k → k ≤ most_cycles → Sound (with_count k (kept_of n (p ∷ h)))
  unfolding kept_of
  kept_sound p [] valid k more room =
      let s = step_sound (start_judge n) p (start_sound n few many) (valid 0 (omega arith)) (omega arith) in
      let e : next_judge (start_judge n) p ≡ kept_of n (p ∷ []) = ap (λ (j : Judge). next_judge j p) (sym (kept_start n)) ∙ kept_step n [] p (omega arith) in
      recounted_sound (kept_of n (p ∷ [])) k (rw e at s) more room
  kept_sound p (q ∷ h) valid k more room =
      let s = kept_sound q h (λ t below. valid (suc t) (omega arith)) 1 (omega arith) (omega arith) in
      let w = step_sound (with_count 1 (kept_of n (q ∷ h))) p s (valid 0 (omega arith)) (omega arith) in
      let e = next_same (kept_of n (q ∷ h)) 1 (kept_some n q h) (omega arith) p ∙ ap (with_count 2) (kept_step n (q ∷ h) p (omega arith)) in
      recounted_sound (with_count 2 (kept_of n (p ∷ (q ∷ h)))) k (rw e at w) more room

pub exact_at_any_length : ExactAtAnyLength
unfolding taken_of kept_of
exact_at_any_length n k c p h few many valid more room =
    let s = kept_sound n few many p h (λ t below. valid (suc t) (omega arith)) k more (omega arith) in
    let a = accepted (with_count k (kept_of n (p ∷ h))) c (test_of (with_count k (kept_of n (p ∷ h))) s) room (valid 0 (omega arith)) in
    let e = map_same (charges (kept_of n (p ∷ h)) c) (λ r. broken n r (c ∷ (p ∷ h))) (exact n (p ∷ h) c (omega arith)) rules in
    a.is ∙ taken_same (kept_of n (p ∷ h)) k (kept_some n p h) more c ∙ rw (kept_step n (p ∷ h) c (omega arith), e)

pub table : rows ≡ wanted
unfolding rows counted high burst_of inputs_too_large outputs_too_large inputs_not_built inputs_absent cycle_check owners_request handover some_below locked_incr is_watched opens counts_ok starts_out well_formed charges refused_of taken_of judge_of mask_of
table = refl
