-- `write_header` meets its contract: n is tested first.
use Rattle.std.proofs.Common.{sym, ◌∙◌, Ok}
use Rattle.std.proofs.lemmas.Result.{err_from_is_err_and}
use Rattle.formats.specs.Lines.{for_masters}
use Rattle.formats.specs.Headers.{header, write_header_of, header_written}
use Rattle.fields.proofs.Writers.{write_refused}
use Rattle.headers.proofs.write_header.Goals as goal

pub returns-in_err-for_masters : goal.returns-in_err-for_masters
unfolding write_header_of header_written
returns-in_err-for_masters c = let a = c.args in
    let p = err_from_is_err_and c.from_residual.result c.from_residual.ensures.1 in
    rw (p.1, p.2) (write_refused (for_masters a.n (Ok tt)) _ c.for_masters.ensures (header a.w a.n) a.buf.now _ c.in_err-for_masters.was)

pub returns : goal.returns
unfolding header write_header_of header_written
returns c = let good = sym c.for_masters.ensures ∙ c.in_ok-for_masters.was in
    rw (good, ← c.prefix.ensures.0) c.write_numbers.ensures
