-- `placed` meets its contract: the size of the line, then its bytes.
use Rattle.scans.proofs.Places.{not_placed, placed_by}
use Rattle.scans.proofs.walk.placed.Goals as goal

pub returns-then-n-size_of : goal.returns-then-n-size_of
returns-then-n-size_of c = not_placed c.args.width c.args.code c.args.s.now _ _ c.line_size-n.ensures.0 c.size_of.ensures.0 c.if-n-size_of.true

pub returns : goal.returns
returns c = placed_by c.args.width c.args.code c.args.s.now _ _ c.line_size-n.ensures.0 c.size_of.ensures.0 c.if-n-size_of.false
    _ _ _ _ c.byte_at-first.ensures c.byte_at-before.ensures c.byte_at-last.ensures c.byte_at-end.ensures
