-- `dump_head` meets its contract: 9, the dump's header, or the line of a refusal.
use Rattle.drawing.proofs.Answers.{header_good, head_short, head_begun, head_refused}
use borrow.Author.Rules.{rules}
use Rattle.drawing.proofs.dump_head.Goals as goal

pub returns-then-out-lt398 : goal.returns-then-out-lt398
returns-then-out-lt398 c = head_short _ _ _ c.if-out-lt398.true c.start.ensures

pub put_header-requires : goal.put_header-requires
put_header-requires c = (search header_good, search rules)

pub returns-in-Ok : goal.returns-in-Ok
returns-in-Ok c = head_begun _ _ _ _ _ _ c.if-out-lt398.false c.read_header.ensures _ _ c.in-Ok.is c.put_header.ensures c.start-in-Ok.ensures

pub returns-in-Err : goal.returns-in-Err
returns-in-Err c = head_refused _ _ _ _ _ _ c.if-out-lt398.false c.read_header.ensures _ c.in-Err.is c.put_refused.ensures c.start-in-Err.ensures
