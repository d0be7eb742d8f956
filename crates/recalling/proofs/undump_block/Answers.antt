-- `undump_block` meets its contract: 9, 10, or the block.
use mathlib.Core.Bool.{not}
use Rattle.std.proofs.Common.{ap}
use Rattle.recalling.proofs.Answers.{block_short, block_unformed, block_fit, block_formed}
use Rattle.recalling.proofs.undump_block.Goals as goal

pub returns-then-out-block : goal.returns-then-out-block
returns-then-out-block c = block_short _ _ _ c.if-out-block.true

pub returns-then-not-formed : goal.returns-then-not-formed
returns-then-not-formed c = block_unformed _ _ _ _ c.if-out-block.false c.formed.ensures (ap not c.if-not-formed.true)

pub run-requires : goal.run-requires
run-requires c = let s = c.args in
    block_fit _ s.block.now s.out.now _ c.if-out-block.false c.formed.ensures (ap not c.if-not-formed.false)

pub returns : goal.returns
returns c = block_formed _ _ _ _ c.if-out-block.false c.formed.ensures _ _ (ap not c.if-not-formed.false) c.run.ensures
