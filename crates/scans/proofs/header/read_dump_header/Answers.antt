-- `read_dump_header` meets its contract: the bytes of its two texts.
use mathlib.Core.Path.{refl}
use Rattle.formats.specs.Texts.{bytes}
use Rattle.formats.specs.Digits.{decimal_before}
use Rattle.waves.specs.Header.{opening, closing, declared, all_declared}
use Rattle.scans.proofs.header.read_dump_header.Goals as goal

pub read_after-requires : goal.read_after-requires
unfolding opening closing bytes all_declared declared decimal_before
read_after-requires c = (refl, refl)
