-- `take` meets its contract: a good line in time goes on, and what is no whole line is not drawn.
use Rattle.std.proofs.Common.{sym, arith}
use Rattle.streams.proofs.Lines.{taken}
use Rattle.conversions.proofs.Positions.{facts_of}
use Rattle.conversions.proofs.DumpNear.{dump_by_lines}
use Rattle.drawing.proofs.Taken.{line_drawn, short_untaken}
use Rattle.drawing.proofs.block.DrawingTaking.take.Goals as goal

pub stop-requires : goal.stop-requires
stop-requires c = (short_untaken _ c.args.rest.now c.if-rest-lt31.true, omega (arith, c.requires.room))

pub see_trace-requires : goal.see_trace-requires
see_trace-requires c = ((facts_of _ c.requires.formed).masters, c.if-rest-lt31.false)

pub returns-in-Some : goal.returns-in-Some
returns-in-Some c =
    let lined = line_drawn _ _ _ _ _ _ _ _ c.if-p-lt1000000.true (c.see_trace.ensures.line _ c.in-Some.is) c.go-written.ensures in
    (lined, taken dump_by_lines _ _ (sym lined.flow), tt)
