-- `undump_head` meets its contract: 9, the trace's header and the start, or the line of a refusal.
use Rattle.recalling.proofs.Answers.{header_good, head_short, head_begun, head_refused}
use Rattle.recalling.proofs.undump_head.Goals as goal

pub returns-then-out-lt31 : goal.returns-then-out-lt31
returns-then-out-lt31 c = let s = c.args in head_short s.head.now s.out.now _ c.if-out-lt31.true c.start.ensures

pub put_header-requires : goal.put_header-requires
put_header-requires c = (header_good c.args.head.now c.read_dump_header.result _ _ c.read_dump_header.ensures c.in-Ok.is, c.if-out-lt31.false)

pub returns-in-Ok : goal.returns-in-Ok
returns-in-Ok c = let s = c.args in
    head_begun s.head.now s.out.now _ c.read_dump_header.result c.if-out-lt31.false c.read_dump_header.ensures _ _ _ _ c.in-Ok.is c.put_header.ensures c.start-in-Ok.ensures

pub returns-in-Err : goal.returns-in-Err
returns-in-Err c = let s = c.args in
    head_refused s.head.now s.out.now _ c.read_dump_header.result c.if-out-lt31.false c.read_dump_header.ensures _ _ _ c.in-Err.is c.put_refused.ensures c.start-in-Err.ensures
