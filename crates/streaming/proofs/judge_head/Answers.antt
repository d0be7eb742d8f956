-- `judge_head` meets its contract: 9, the judge at its start, or the line of a refusal.
use Rattle.streaming.proofs.Headed.{judge_too_short, judge_begun, judge_refused}
use Rattle.streaming.proofs.judge_head.Goals as goal

pub returns-then-out-lt31 : goal.returns-then-out-lt31
returns-then-out-lt31 c = judge_too_short _ _ _ c.if-out-lt31.true c.tally.ensures

pub returns-in-Ok : goal.returns-in-Ok
returns-in-Ok c = judge_begun _ _ _ _ c.if-out-lt31.false c.read_header.ensures _ _ c.in-Ok.is c.tally-in-Ok.ensures

pub returns-in-Err : goal.returns-in-Err
returns-in-Err c = judge_refused _ _ _ _ c.if-out-lt31.false c.read_header.ensures _ _ _ c.in-Err.is c.tally-in-Err.ensures c.put_refused.ensures
