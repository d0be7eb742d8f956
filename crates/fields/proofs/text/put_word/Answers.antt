-- `put_word` meets its contract: bytes copied to the front are a run of stores there.
use Rattle.std.proofs.Common.{sym, ap, ◌∙◌, zero-add, ◌++◌, drop, length, arith}
use lib.Seq.{sets-eq}
use Rattle.fields.proofs.text.put_word.Goals as goal

pub returns : goal.returns
returns c = let a = c.args in
    ap (λ l. l ++ drop (length a.w.now) a.buf.now) c.copy_from_slice.ensures.after ∙ sym (rw zero-add at (sets-eq a.w.now a.buf.now 0 (omega arith)))
