-- `put_bits` meets its contract: two words, or one by one.
use Rattle.dumps.proofs.Bits.{mask_put}
use Rattle.dumps.proofs.lines.put_bits.Goals as goal

pub returns-then-width-eq16 : goal.returns-then-width-eq16
returns-then-width-eq16 c = let a = c.args in
    mask_put a.width a.v a.at a.buf.now _ _ c.if-width-eq16.true c.put_byte.ensures c.put_byte-then-width-eq16.ensures
