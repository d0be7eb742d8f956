-- `judge_block` meets its contract: 9, 10, or the block.
use mathlib.Core.Bool.{not}
use Rattle.std.proofs.Common.{ap}
use Rattle.streaming.proofs.Answers.{judge_short, judge_unformed, judge_fit, judge_formed_lem}
use borrow.Author.Rules.{rules}
use Rattle.streaming.proofs.judge_block.Goals as goal

pub returns-then-out-block : goal.returns-then-out-block
returns-then-out-block c = judge_short _ _ _ c.if-out-block.true

pub returns-then-not-tally_formed : goal.returns-then-not-tally_formed
returns-then-not-tally_formed c = judge_unformed _ _ _ _ c.if-out-block.false c.tally_formed.ensures (ap not c.if-not-tally_formed.true)

pub run-requires : goal.run-requires
run-requires c = judge_fit _ c.args.block.now c.args.out.now _ c.if-out-block.false c.tally_formed.ensures (ap not c.if-not-tally_formed.false)
    (let counts = c.well_formed.0.1.1.0.1.1.1.1.1.1.1.1.1.0 in search rules)

pub returns : goal.returns
returns c = judge_formed_lem _ _ _ _ c.if-out-block.false c.tally_formed.ensures _ _ (ap not c.if-not-tally_formed.false) c.run.ensures
