-- The answers of the calls that take a block: 9, 10, or the stretch.
--
--   arbiter_short, arbiter_unformed, arbiter_fit, arbiter_formed == the ends of the arbiter's call
--   judge_short, judge_unformed, judge_fit, judge_formed_lem == the ends of the judging program's
use Prim.Native.Nat.{ℕ, ◌+◌, ◌/◌, ◌≤◌, ◌<◌}
use mathlib.Core.Path.{◌≡◌, sym, ◌∙◌}
use mathlib.Core.Bool.{Bool, true, false, not}
use mathlib.Core.List.{List}
use native.Mathlib.Omega.{arith}
use borrow.Author.Tests.{not-true, not-false}
use lib.ListN.{length}
use Rattle.rules.specs.declared.State.{State}
use Rattle.rules.specs.State.{well_formed, WellFormed}
use Rattle.rules.proofs.WellFormed.{facts_of}
use Rattle.streams.specs.declared.Progress.{Progress}
use Rattle.streams.specs.declared.Tally.{Tally}
use Rattle.streams.specs.declared.Flow.TheVariants.{Short, Unformed}
use Rattle.streams.specs.Blocks.{bytes_of, progress_of, arbiter_room, arbiter_stretch, arbiter_block_of, arbiter_block_left, tally_formed, judge_room, judge_stretch, judge_block_of, judge_block_left}
use Rattle.streams.specs.Turns.{over}
use Rattle.streams.specs.Breaches.{Formed}
use Rattle.streams.proofs.Stays.{tally_facts}
use Rattle.streams.proofs.Taken.{few_lines, many_lines, short, unformed, taken}

module _ (s : State) (block out : List ℕ) where
  pub arbiter_short : length out / 31 < length block / 16 + 1
      → (record { written = 0; flow = Short; kept = s } ≡ arbiter_block_of s block (length out)) × (out ≡ arbiter_block_left s block out)
  unfolding arbiter_block_of arbiter_block_left
  arbiter_short h =
      short (arbiter_room block) (well_formed s) s (arbiter_stretch s block) out (few_lines 16 31 (omega arith) block out h)

  module _ (formed : Bool) (big : length block / 16 + 1 ≤ length out / 31) (e : formed ≡ well_formed s) where
    arbiter_enough : arbiter_room block ≤ length out
    arbiter_enough = many_lines 16 31 (omega arith) block out big

    pub arbiter_unformed : not formed ≡ true
        → (record { written = 0; flow = Unformed; kept = s } ≡ arbiter_block_of s block (length out)) × (out ≡ arbiter_block_left s block out)
    unfolding arbiter_block_of arbiter_block_left
    arbiter_unformed n = unformed (arbiter_room block) (well_formed s) s (arbiter_stretch s block) out arbiter_enough (sym e ∙ not-true formed n)

    pub arbiter_fit : not formed ≡ false → WellFormed s × (arbiter_room block ≤ length out)
    arbiter_fit n = (facts_of s (sym e ∙ not-false formed n), arbiter_enough)

    pub arbiter_formed : (r : Progress State) (left : List ℕ) → not formed ≡ false
        → (r ≡ progress_of (arbiter_stretch s block)) × (left ≡ over (bytes_of (arbiter_stretch s block)) out)
        → (r ≡ arbiter_block_of s block (length out)) × (left ≡ arbiter_block_left s block out)
    unfolding arbiter_block_of arbiter_block_left
    arbiter_formed r left n h =
        taken (arbiter_room block) (well_formed s) s (arbiter_stretch s block) out arbiter_enough (sym e ∙ not-false formed n) r left h

module _ (b : Tally) (block out : List ℕ) where
  pub judge_short : length out / 315 < length block / 31 + 1
      → (record { written = 0; flow = Short; kept = b } ≡ judge_block_of b block (length out)) × (out ≡ judge_block_left b block out)
  unfolding judge_block_of judge_block_left
  judge_short h =
      short (judge_room block) (tally_formed b) b (judge_stretch b block) out (few_lines 31 315 (omega arith) block out h)

  module _ (formed : Bool) (big : length block / 31 + 1 ≤ length out / 315) (e : formed ≡ tally_formed b) where
    judge_enough : judge_room block ≤ length out
    judge_enough = many_lines 31 315 (omega arith) block out big

    pub judge_unformed : not formed ≡ true
        → (record { written = 0; flow = Unformed; kept = b } ≡ judge_block_of b block (length out)) × (out ≡ judge_block_left b block out)
    unfolding judge_block_of judge_block_left
    judge_unformed n = unformed (judge_room block) (tally_formed b) b (judge_stretch b block) out judge_enough (sym e ∙ not-true formed n)

    pub judge_fit : not formed ≡ false → length b.judge.lost ≡ 16 → Formed b × (judge_room block ≤ length out)
    judge_fit n size = (tally_facts b size (sym e ∙ not-false formed n), judge_enough)

    pub judge_formed_lem : (r : Progress Tally) (left : List ℕ) → not formed ≡ false
        → (r ≡ progress_of (judge_stretch b block)) × (left ≡ over (bytes_of (judge_stretch b block)) out)
        → (r ≡ judge_block_of b block (length out)) × (left ≡ judge_block_left b block out)
    unfolding judge_block_of judge_block_left
    judge_formed_lem r left n h =
        taken (judge_room block) (tally_formed b) b (judge_stretch b block) out judge_enough (sym e ∙ not-false formed n) r left h
