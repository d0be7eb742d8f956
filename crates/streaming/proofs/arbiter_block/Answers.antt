-- `arbiter_block` meets its contract: 9, 10, or the block.
use mathlib.Core.Bool.{not}
use Rattle.std.proofs.Common.{ap}
use Rattle.streaming.proofs.Answers.{arbiter_short, arbiter_unformed, arbiter_fit, arbiter_formed}
use Rattle.streaming.proofs.arbiter_block.Goals as goal

pub returns-then-out-block : goal.returns-then-out-block
returns-then-out-block c = arbiter_short _ _ _ c.if-out-block.true

pub returns-then-not-well_formed : goal.returns-then-not-well_formed
returns-then-not-well_formed c = arbiter_unformed _ _ _ _ c.if-out-block.false c.well_formed-2.ensures (ap not c.if-not-well_formed.true)

pub run-requires : goal.run-requires
run-requires c = let s = c.args in
    arbiter_fit _ s.block.now s.out.now _ c.if-out-block.false c.well_formed-2.ensures (ap not c.if-not-well_formed.false)

pub returns : goal.returns
returns c = arbiter_formed _ _ _ _ c.if-out-block.false c.well_formed-2.ensures _ _ (ap not c.if-not-well_formed.false) c.run.ensures
