-- `write_dump_header` meets its contract: n is tested first; the two texts are those of the definition.
use Rattle.std.proofs.Common.{◌≡◌, Err, rules}
use Rattle.formats.specs.Digits.{decimal_before}
use Rattle.formats.specs.Texts.{bytes}
use Rattle.waves.specs.Header.{opening, declared, all_declared, closing, dump_header}
use Rattle.dumps.proofs.Writers.{header_refused, header_given}
use Rattle.dumps.proofs.write_dump_header.Goals as goal

pub returns-in_err-for_masters : goal.returns-in_err-for_masters
returns-in_err-for_masters c = let a = c.args in
    let told : c.from_residual.result ≡ Err c.in_err-for_masters.field-0.0 = search rules in
    rw told (header_refused a.n a.buf.now _ c.for_masters.ensures _ c.in_err-for_masters.was)

pub returns : goal.returns
unfolding bytes decimal_before opening declared all_declared closing dump_header
returns c = let a = c.args in
    header_given a.n a.buf.now _ c.for_masters.ensures _ _ c.in_ok-for_masters.was c.write_around.ensures
