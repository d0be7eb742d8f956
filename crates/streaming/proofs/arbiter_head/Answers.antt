-- `arbiter_head` meets its contract: 9, the trace's header, or the line of a refusal.
use Rattle.streaming.proofs.Headed.{header_good, arbiter_too_short, arbiter_begun, arbiter_refused}
use borrow.Author.Rules.{rules}
use Rattle.streaming.proofs.arbiter_head.Goals as goal

pub returns-then-out-lt31 : goal.returns-then-out-lt31
returns-then-out-lt31 c = arbiter_too_short _ _ c.if-out-lt31.true

pub begin-requires : goal.begin-requires
begin-requires c = (search header_good, search rules)

pub returns-in-Ok : goal.returns-in-Ok
returns-in-Ok c = arbiter_begun _ _ _ c.if-out-lt31.false c.read_header.ensures _ _ _ _ c.in-Ok.is c.begin.ensures

pub returns-in-Err : goal.returns-in-Err
returns-in-Err c = arbiter_refused _ _ _ c.if-out-lt31.false c.read_header.ensures _ _ _ c.in-Err.is c.put_refused.ensures
