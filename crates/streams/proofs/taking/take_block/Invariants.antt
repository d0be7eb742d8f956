-- `take_block` ends: each line that goes on takes a byte at least. The loop's invariant: the block is taken so far.
use Rattle.std.proofs.Common.{length, ◌-◌}
use Rattle.streams.specs.Going.{Going}
use Rattle.streams.proofs.taking.take_block.Given as goal

abbrev pub invariant-loop-at : goal.invariant-loop-at
invariant-loop-at g l =
    let p = g.T.Taking in
    Going p.turn p.least p.most p.formed (p.state l.t l.initial.kept) l.block l.initial.out (p.state l.t l.kept) l.at l.out l.written × p.ready l.t l.kept

abbrev pub decreases-loop-at : goal.decreases-loop-at
decreases-loop-at g l = length l.block - l.at
