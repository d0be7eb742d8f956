-- `vector` meets its contract: the characters, and the bytes round them.
use Rattle.sights.proofs.Lines.{vector_line}
use Rattle.sights.proofs.columns.vector.Goals as goal

pub returns-in_ok-number : goal.returns-in_ok-number
returns-in_ok-number g c =
    vector_line g.row.W c.args.code c.in_ok-number.field-0 c.args.s.now _ _ c.requires.0
    c.requires.2 c.split_at.ensures.front c.split_at.ensures.back c.split_at.ensures.front_len c.if-line-code.false c.if-line.true c.in_ok-number.ensures
