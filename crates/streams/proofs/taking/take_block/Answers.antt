-- `take_block` meets its contract: each line that goes on brings the block further, and the one that does not ends it.
use Rattle.std.proofs.Common.{refl}
use Rattle.words.proofs.Words.{part_rest}
use Rattle.streams.proofs.Stretches.{lent, goes_on_lem, stopped, used_up, block_stopped, block_used}
use Rattle.streams.proofs.taking.take_block.Goals as goal

pub take-requires-clause-room : goal.take-requires-clause-room
take-requires-clause-room g c = lent g.met.T.Taking.laws c.loop-at.invariant.0 c.requires.room

pub loop-at-preserved : goal.loop-at-preserved
loop-at-preserved g c =
    let e = c.in-Ok.ensures in
    (goes_on_lem g.met.T.Taking.laws c.loop-at.invariant.0 c.loop-at-test.true e.0 _ (rw (part_rest c.loop-at.at c.args.block.now) at e.1) refl, e.2)

pub returns-in-Err : goal.returns-in-Err
returns-in-Err g c =
    rw c.state.ensures (block_stopped (stopped g.met.T.Taking.laws c.loop-at.invariant.0 c.loop-at-test.true c.in-Err.ensures refl))

pub returns : goal.returns
returns g c = rw c.state-2.ensures (block_used (used_up g.met.T.Taking.laws c.loop-at.invariant.0 c.loop-at-test.false))
