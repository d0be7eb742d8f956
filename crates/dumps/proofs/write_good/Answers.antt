-- `write_good` meets its contract: the step is put beside the buffer, and copied where there is room.
use Rattle.dumps.proofs.Writers.{step_copied}
use Rattle.dumps.proofs.write_good.Goals as goal

pub returns : goal.returns
returns c = let a = c.args in
    step_copied a.buf.now a.t a.prev a.c _ c.put_step-size.ensures.0 _ _ c.put_step-size.ensures.1 _ c.if-buf-size.false c.put_word.ensures
