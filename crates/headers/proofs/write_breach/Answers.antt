-- `write_breach` meets its contract: both ends of a writer.
use Rattle.headers.proofs.Texts.{breach_short, breach_written}
use Rattle.headers.proofs.write_breach.Goals as goal

pub returns-then-buf-t : goal.returns-then-buf-t
returns-then-buf-t c = let n = c.name_of-letter in let a = c.args in
    breach_short a.cycle a.rule a.buf.now _ _ _ _ n.ensures.0 n.ensures.1 c.decimal_length-t.ensures.0 c.decimal_length-k.ensures.0 c.if-buf-t.true

pub returns : goal.returns
returns c = let p = c.put_decimal-at.ensures in let q = c.put_decimal-next.ensures in
    let n = c.name_of-letter in let a = c.args in
    breach_written a.cycle a.rule a.buf.now _ _ _ _ n.ensures.0 n.ensures.1 c.decimal_length-t.ensures.0 c.decimal_length-k.ensures.0 _ _ _ _ c.if-buf-t.false p.0 p.1 q.0 q.1
