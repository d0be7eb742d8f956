-- `write_numbers` meets its contract: each number stands behind those before it.
use Rattle.std.proofs.Common.{arith}
use Rattle.headers.proofs.Texts.{wrote_more, counted, wrote_all}
use Rattle.headers.proofs.write_numbers.Goals as goal

pub loop-n-2-preserved : goal.loop-n-2-preserved
loop-n-2-preserved c = let a = c.args in let l = c.loop-n-2 in let i = l.invariant in
    let p = c.put_decimal-at.ensures in
    let more = wrote_more a.word.now a.numbers.now a.buf.now l.n-index l.at _ (0, 0) l.buf _ c.loop-n-2-test.true i.0 i.2 p.0 p.1 in
    (more.0, omega arith, more.1)

pub returns : goal.returns
returns c = let a = c.args in let l = c.loop-n-2 in let i = l.invariant in
    let size = counted a.word.now a.numbers.now a.buf.now c.loop-n.n-index c.loop-n.size c.loop-n-test.false c.loop-n.invariant.0 in
    wrote_all a.word.now a.numbers.now a.buf.now l.n-index l.at l.buf (omega arith) c.loop-n-2-test.false i.0 i.2
