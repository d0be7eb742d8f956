-- What the judging program's contracts cite beside the definitions of the other crates.
--
--   named b == the breaches that it has named so far
use Rattle.std.specs.Prelude.{ℕ}
use Rattle.streams.specs.declared.Tally.{Tally}

abbrev pub named : Tally → ℕ
named b = b.breaches
