-- `write` meets its contract: the line stands at the start of the buffer.
use Rattle.std.proofs.Common.{sym, ap, ◌∙◌, arith}
use Rattle.formats.specs.Lines.{for_masters}
use Rattle.fields.proofs.Writers.{write_whole}
use Rattle.lines.proofs.write.Goals as goal

pub returns : goal.returns
returns g c = let a = c.args in let line = g.L.Line in
    write_whole (for_masters a.n (line.checks a.n a.line)) c.for_masters.result (c.for_masters.ensures ∙ ap (for_masters a.n) c.test_written.ensures)
    (line.text a.line) a.buf.now _ _ c.in_ok-for_masters.was (c.WIDTH-2.ensures ∙ sym (g.met.L.Line.long a.line)) (omega arith) c.put.ensures
