-- How the parts of a step come together, over plain values.
--
--   taken     == a cycle that is taken
--   good, bad == the two ends of a tested cycle
--   sound     == a judge that passes its test is well formed
--   malformed, full, gone_on == the three ends of a step
--   flagged   == the same step with a flag for each rule
use Rattle.std.specs.Prelude.{Err, Ok}
use Prim.Native.Nat.{ℕ, ◌≤◌, ◌<◌}
use mathlib.Core.Path.{◌≡◌, refl, sym, ◌∙◌}
use mathlib.Core.Bool.{Bool, true, false, not}
use mathlib.Core.List.{List, map}
use borrow.Author.Tests.{le-leb, lt-leb, not-false}
use lib.Dec.{leb}
use lib.ListN.{length}
use Rattle.rules.specs.declared.Refusal.{Refusal}
use Rattle.rules.specs.declared.Refusal.TheVariants.{Full, State}
use Rattle.rules.specs.Results.{Check}
use Rattle.rules.specs.declared.Cycle.{Cycle}
use Rattle.rules.specs.Codes.{most_cycles}
use Rattle.rules.specs.Valid.{cycle_check}
use Rattle.rules.proofs.Choice.{cond_elim}
use Rattle.rulebook.specs.declared.Judge.{Judge}
use Rattle.rulebook.specs.declared.Judgement.{Judgement}
use Rattle.rulebook.specs.Rules.{rules}
use Rattle.rulebook.specs.State.{well_formed}
use Rattle.rulebook.specs.Charges.{next_judge, charges}
use Rattle.rulebook.specs.Named.{mask_of, flags_in}
use Rattle.rulebook.proofs.Named.{mask_again}
use Rattle.rulebook.specs.Step.{refused_of, taken_of, checked_of, judge_of}
use Rattle.judging.specs.declared.Ruled.{Ruled}
use Rattle.judging.specs.Ruled.{ruled_of}

abbrev Sized : Judgement → Type 0
Sized a = length a.charged ≡ 21

module _ (j : Judge) (c : Cycle) where
  pub taken : (after : Judge) (m : ℕ) → after ≡ next_judge j c → m ≡ mask_of (map (charges j c) rules)
      → record { judge = after; verdict = Ok tt; mask = m } ≡ ruled_of (taken_of j c)
  unfolding taken_of
  taken after m e f = rw (e, f)

  pub good : (k f : Check) (a : Ruled) → f ≡ k → f ≡ Ok tt → a ≡ ruled_of (taken_of j c) → a ≡ ruled_of (checked_of k j c)
  good k f a e g h =
      let u : k ≡ (Ok tt) = cc in
      rw u h

  pub bad : (k f : Check) (r : Refusal) (a : Ruled) → f ≡ k → f ≡ Err r → a ≡ ruled_of (refused_of j r) → a ≡ ruled_of (checked_of k j c)
  bad k f r a e g h =
      let u : k ≡ Err r = cc in
      rw u h

  pub malformed : (b : Bool) (a : Ruled) → b ≡ well_formed j → not b ≡ true → a ≡ ruled_of (refused_of j State) → a ≡ ruled_of (judge_of j c)
  unfolding judge_of
  malformed b a e n h =
      let u : not (well_formed j) ≡ true = cc in
      rw u h

  pub sound : (b : Bool) → b ≡ well_formed j → not b ≡ false → well_formed j ≡ true
  sound b e n = sym e ∙ not-false b n

  pub full : (b : Bool) (a : Ruled) → b ≡ well_formed j → not b ≡ false → most_cycles ≤ j.count → a ≡ ruled_of (refused_of j Full) → a ≡ ruled_of (judge_of j c)
  unfolding judge_of
  full b a e n h g = simp (sound b e n, le-leb 1000000 j.count h) g

  pub gone_on : (b : Bool) (a : Ruled) → b ≡ well_formed j → not b ≡ false → j.count < most_cycles → a ≡ ruled_of (checked_of (cycle_check j.n c) j c) → a ≡ ruled_of (judge_of j c)
  unfolding judge_of
  gone_on b a e n h g = simp (sound b e n, lt-leb 1000000 j.count h) g

  -- an answer has a flag for each rule
  sized : length (judge_of j c).charged ≡ 21
  unfolding judge_of refused_of taken_of
  sized =
      cond_elim Sized (not (well_formed j)) (λ _. refl)
      (λ _. cond_elim Sized (leb most_cycles j.count) (λ _. refl) (λ _. go (cycle_check j.n c)))
    where
      go : (k : Check) → Sized (checked_of k j c)
      go (Ok _) = refl
      go (Err r) = refl

  pub flagged : (a : Ruled) (l : List Bool) → a ≡ ruled_of (judge_of j c) → l ≡ flags_in 21 a.mask
      → record { judge = a.judge; verdict = a.verdict; charged = l } ≡ judge_of j c
  flagged a l e f =
      let again : flags_in 21 (mask_of (judge_of j c).charged) ≡ (judge_of j c).charged = rw (← sized) (mask_again (judge_of j c).charged) in
      rw (f, e, again)
