-- `write_around` meets its contract: both ends of a writer.
use Rattle.dumps.proofs.Writers.{around_written}
use Rattle.dumps.proofs.write_around.Goals as goal

pub returns : goal.returns
returns c = let a = c.args in
    around_written a.first.now a.n a.last.now a.buf.now _ c.decimal_length-k.ensures.0 _ _ _ _ c.if-buf-size.false
    c.put_word.ensures c.put_decimal-at.ensures.0 c.put_decimal-at.ensures.1 c.put_word-2.ensures
