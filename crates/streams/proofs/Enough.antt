-- The promises of specs/Enough.antt, each under its name.
--
--   more_stop  == a stretch over more lines than a run may have has stopped
--   tally_room == what the judging program keeps has counted no more than that
use Prim.Native.Nat.{ℕ, ◌*◌, ◌≤◌, ◌<◌}
use mathlib.Core.Path.{◌≡◌, refl}
use mathlib.Core.Bool.{Bool, true, false, cond}
use mathlib.Core.List.{List}
use native.Mathlib.Nat.{mul-le-mul_right}
use native.Mathlib.Omega.{arith}
use borrow.Author.Tests.{leb-true}
use lib.Dec.{leb, ltb}
use lib.ListN.{length}
use Rattle.rules.specs.declared.State.{State}
use Rattle.rules.specs.Codes.{most_cycles}
use Rattle.rules.specs.State.{well_formed}
use Rattle.rules.proofs.Choice.{order, and_left, and_right}
use Rattle.rules.proofs.WellFormed.{facts_of}
use Rattle.rulebook.specs.State.{well_formed as judge_formed}
use Rattle.streams.specs.declared.Flow.{Flow}
use Rattle.streams.specs.declared.Flow.TheVariants.{GoesOn, Short, Unformed}
use Rattle.streams.specs.declared.Progress.{Progress}
use Rattle.streams.specs.declared.Tally.{Tally}
use Rattle.streams.specs.Streams.{Turn, Stretch, on, done, stretch}
use Rattle.streams.specs.Arbiter.{arbiter_turn}
use Rattle.streams.specs.Judging.{judge_turn}
use Rattle.streams.specs.Blocks.{Stepping, arbiter_room, progress_of, arbiter_stretch, arbiter_block_of, tally_formed, judge_room, judge_stretch, judge_block_of}
use Rattle.streams.specs.Enough.{has_stopped, BlocksAreCounted, MoreLinesStop}
use Rattle.streams.proofs.Lines.{stepping}
use Rattle.streams.proofs.Taken.{progress_on}
use Rattle.streams.proofs.Near.{arbiter_by_lines, judge_by_lines}
use Rattle.streams.proofs.Counted.{Counting, Used, used, arbiter_counts, judge_counts}

module _ {S : Type 0} (turn : S → List ℕ → Turn S) {least most : ℕ} (L : Stepping least most turn) (count : S → ℕ) (counts : Counting count turn) where
  -- what a stretch that goes on has counted
  pub whole_used : (s t : S) (block bytes : List ℕ) → stretch turn (length block) s block ≡ on bytes t → Used turn L count counts s t block
  whole_used s t block bytes e = used turn L count counts (length block) s t block bytes (omega arith) e

  pub more_stop : (s : S) (block : List ℕ) → most_cycles * most < length block → has_stopped (stretch turn (length block) s block) ≡ true
  more_stop s block h = go (stretch turn (length block) s block) refl
    where
      go : (x : Stretch S) → stretch turn (length block) s block ≡ x → has_stopped x ≡ true
      go (done bytes t) e = refl
      go (on bytes t) e =
          let u = whole_used s t block bytes e in
          absurd (order u.lines most_cycles
          (λ few. omega (arith, u.at_most, mul-le-mul_right most few))
          (λ many. omega (arith, u.some (omega arith), u.counted)))

pub more_lines_stop : MoreLinesStop
more_lines_stop =
    record {
      arbiter_lines = λ s block h. more_stop arbiter_turn (stepping arbiter_by_lines) (λ s. s.count) arbiter_counts s block h;
      judge_lines = λ b block h. more_stop judge_turn (stepping judge_by_lines) (λ b. b.judge.count) judge_counts b block h;
    }

-- a call that answers GoesOn has taken its block: `few` and `ill` are its answers where the buffer is too short and where what was kept is not
-- well formed
pub on_only : {A P : Type 0} (flow : A → Flow) (few taken ill : A) (short formed : Bool)
    → flow few ≡ Short → flow ill ≡ Unformed
    → flow (cond short few (cond formed taken ill)) ≡ GoesOn
    → (formed ≡ true → flow taken ≡ GoesOn → cond short few (cond formed taken ill) ≡ taken → P) → P
on_only flow few taken ill true formed e f g next = let z : ◌≡◌ {A = ℕ} 0 1 = cc in absurd (omega arith)
on_only flow few taken ill false true e f g next = next refl g refl
on_only flow few taken ill false false e f g next = let z : ◌≡◌ {A = ℕ} 0 1 = cc in absurd (omega arith)

pub tally_room : (b : Tally) → tally_formed b ≡ true → b.judge.count ≤ most_cycles
unfolding tally_formed judge_formed
tally_room b e =
    let f : leb b.judge.count most_cycles ≡ true = search (and_left, and_right) depth 12 in
    leb-true b.judge.count most_cycles f

pub blocks_are_counted : BlocksAreCounted
unfolding arbiter_block_of judge_block_of
blocks_are_counted =
    record {
      arbiter_block = λ s block room e.
          on_only (λ (a : Progress State). a.flow) _ (progress_of (arbiter_stretch s block)) _ (ltb room (arbiter_room block)) (well_formed s) refl refl e
          (λ formed goes is.
          let q = progress_on (arbiter_stretch s block) goes in
          let u = whole_used arbiter_turn (stepping arbiter_by_lines) (λ s. s.count) arbiter_counts s (progress_of (arbiter_stretch s block)).kept block q.0 q.1 in
          rw is (omega (arith, u.at_least, u.at_most, u.counted), u.room (facts_of s formed).room));
      judge_block = λ b block room e.
          on_only (λ (a : Progress Tally). a.flow) _ (progress_of (judge_stretch b block)) _ (ltb room (judge_room block)) (tally_formed b) refl refl e
          (λ formed goes is.
          let q = progress_on (judge_stretch b block) goes in
          let u = whole_used judge_turn (stepping judge_by_lines) (λ b. b.judge.count) judge_counts b (progress_of (judge_stretch b block)).kept block q.0 q.1 in
          rw is (omega (arith, u.at_least, u.at_most, u.counted), u.room (tally_room b formed)));
    }
