-- What the programs write is the same wherever their input is cut into blocks, and a refused block leaves all as it was.
use Prim.Native.Nat.{ℕ, suc, ◌<◌}
use mathlib.Core.Path.{◌≡◌, refl, ap}
use mathlib.Core.Bool.{Bool, true, false, cond}
use mathlib.Core.List.{List, ◌++◌}
use native.Mathlib.Omega.{arith}
use lib.Dec.{ltb}
use lib.ListN.{length, drop, length-drop}
use Rattle.rules.specs.declared.State.{State}
use Rattle.rules.specs.State.{reset_state, well_formed}
use Rattle.formats.specs.declared.Word.TheVariants.{Trace}
use Rattle.formats.specs.Headers.{header}
use Rattle.streams.specs.declared.Flow.{Flow}
use Rattle.streams.specs.declared.Progress.{Progress}
use Rattle.streams.specs.declared.Tally.{Tally}
use Rattle.streams.specs.Arbiter.{arbiter_turn, arbiter_program}
use Rattle.streams.specs.Judging.{judge_turn, start_tally, judge_program}
use Rattle.streams.specs.Blocks.{joined, flow_answer, arbiter_room, progress_of, arbiter_stretch, arbiter_block_of, arbiter_block_left, tally_formed, judge_room, judge_stretch, judge_block_of, judge_block_left}
use Rattle.streams.specs.Promises.{ArbiterInBlocks, JudgeInBlocks, RefusedBlocksKept}
use Rattle.streams.proofs.Cut.{in_blocks_lem}
use Rattle.streams.proofs.Lines.{stepping, cutting, all_cut}
use Rattle.streams.proofs.Taken.{progress_taken}
use Rattle.streams.proofs.Near.{arbiter_by_lines, judge_by_lines}

pub shorter : (s rest : List ℕ) (next : ℕ) → drop next s ≡ rest → length rest < suc (length s)
shorter s rest next e = omega (arith, ap length e, length-drop next s)

pub arbiter_in_blocks : ArbiterInBlocks
unfolding arbiter_program
arbiter_in_blocks s n next blocks last e f h =
    rw (e, f)
    (ap (λ (l : List ℕ). header Trace n ++ l)
    (in_blocks_lem arbiter_turn (stepping arbiter_by_lines) (cutting arbiter_by_lines) blocks last (all_cut 16 blocks last h) (suc (length s)) (reset_state n) (shorter s (joined blocks last) next f)))

pub judge_in_blocks : JudgeInBlocks
unfolding judge_program
judge_in_blocks s n next blocks last e f h =
    rw (e, f) (in_blocks_lem judge_turn (stepping judge_by_lines) (cutting judge_by_lines) blocks last (all_cut 31 blocks last h) (suc (length s)) (start_tally n) (shorter s (joined blocks last) next f))

-- A call that answers `few` where the buffer is too short, `taken` where what was kept is well formed, and else `ill`; `after` is the
-- buffer that the block leaves.
pub kept : {S A : Type 0} (flow : A → Flow) (state : A → S) (few taken ill : A) (s : S) (after buffer : List ℕ) (short formed : Bool)
    → state few ≡ s → flow_answer (flow taken) ≡ 0 → state ill ≡ s
    → (flow_answer (flow (cond short few (cond formed taken ill))) ≡ 0 → ⊥)
    → (state (cond short few (cond formed taken ill)) ≡ s) × (cond short buffer (cond formed after buffer) ≡ buffer)
kept flow state few taken ill s after buffer true formed e f g h = (e, refl)
kept flow state few taken ill s after buffer false true e f g h = absurd (h f)
kept flow state few taken ill s after buffer false false e f g h = (g, refl)

pub refused_blocks_kept : RefusedBlocksKept
unfolding arbiter_block_of arbiter_block_left judge_block_of judge_block_left
refused_blocks_kept =
    record {
      arbiter_block = λ s block buffer h.
          kept (λ (a : Progress State). a.flow) (λ a. a.kept) _ (progress_of (arbiter_stretch s block)) _ s _ buffer
          (ltb (length buffer) (arbiter_room block)) (well_formed s)
          refl (progress_taken (arbiter_stretch s block)) refl h;
      judge_block = λ b block buffer h.
          kept (λ (a : Progress Tally). a.flow) (λ a. a.kept) _ (progress_of (judge_stretch b block)) _ b _ buffer
          (ltb (length buffer) (judge_room block)) (tally_formed b)
          refl (progress_taken (judge_stretch b block)) refl h;
    }
