-- `run` meets its contract. The loop's invariant: the block is taken so far, and where the loop is to end, the next line is not taken.
-- The measure: what is left of the block, and whether the loop goes on.
use mathlib.Core.Path.{refl, sym, ◌∙◌}
use mathlib.Core.Bool.{true≢false}
use native.Mathlib.Omega.{arith}
use Rattle.rules.proofs.Choice.{and_left}
use Rattle.words.proofs.Words.{part_rest}
use Rattle.streams.proofs.Judged.{judge_program_lem}
use Rattle.streams.proofs.Near.{judge_by_lines}
use Rattle.streams.proofs.Stretches.{lent, inside_block, line_on, stopped, used_up, block_stopped, block_used}
use Rattle.traces.proofs.Taken.{good_cycle, line_taken, left_untaken}
use Rattle.traces.proofs.run.Goals as goal

pub go-gone-requires : goal.go-gone-requires
go-gone-requires c = let g = c.loop-on.invariant.0 in
    (g.formed, c.if-j-lt1000000.true, good_cycle _ _ _ _ (c.see_trace.ensures.line _ c.in-Some.is), lent judge_program_lem g c.requires.1)

pub loop-on-preserved-then-j-lt1000000 : goal.loop-on-preserved-then-j-lt1000000
loop-on-preserved-then-j-lt1000000 c = let g = c.loop-on.invariant.0 in
    let read = c.see_trace.ensures.line _ c.in-Some.is in
    let lined = line_taken _ _ g.formed _ _ _ _ _ _ _ read c.go-gone.ensures in
    let going = and_left c.loop-on.on _ c.loop-on-test.true in
    let more = inside_block 31 c.args.block.now c.loop-on.at c.loop-on.on (omega arith) c.loop-on-test.true in
    (line_on judge_program_lem g more lined judge_by_lines refl, λ e. absurd (true≢false (sym going ∙ e)))

pub stop-w-requires : goal.stop-w-requires
stop-w-requires c = let g = c.loop-on.invariant.0 in
    let most = lent judge_program_lem g c.requires.1 in
    (g.formed, rw (← part_rest c.loop-on.at c.args.block.now) at (left_untaken _ c.args.block.now c.loop-on.at c.loop-on.on c.loop-on.invariant.1 c.loop-on-test.false), omega arith)

pub returns-then-at-block : goal.returns-then-at-block
returns-then-at-block c = let g = c.loop-on.invariant.0 in
    let more = c.if-at-block.true in
    let lined = c.stop-w.ensures in
    let big = c.requires.1 in
    block_stopped (stopped judge_program_lem g more lined refl)

pub returns : goal.returns
returns c = block_used (used_up judge_program_lem c.loop-on.invariant.0 c.if-at-block.false)
