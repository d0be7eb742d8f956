-- `dump_block` meets its contract: 9, 10, or the block.
use mathlib.Core.Bool.{not}
use Rattle.std.proofs.Common.{ap}
use Rattle.drawing.proofs.Answers.{block_short, block_unformed, block_fit, block_taken}
use Rattle.drawing.proofs.dump_block.Goals as goal

pub returns-then-out-block : goal.returns-then-out-block
returns-then-out-block c = block_short _ _ _ c.if-out-block.true

pub returns-then-not-formed : goal.returns-then-not-formed
returns-then-not-formed c = block_unformed _ _ _ _ c.if-out-block.false c.formed.ensures (ap not c.if-not-formed.true)

pub run-requires : goal.run-requires
run-requires c = block_fit _ c.args.block.now c.args.out.now _ c.if-out-block.false c.formed.ensures (ap not c.if-not-formed.false)

pub returns : goal.returns
returns c = block_taken _ _ _ _ c.if-out-block.false c.formed.ensures _ _ (ap not c.if-not-formed.false) c.run.ensures
