-- What the contracts of trace2vcd cite beside the definitions of the other crates.
--
--   no_breach p  == the program names no breach
--   begun_with n == it begins so after a header with n
use Rattle.std.specs.Prelude.{ℕ}
use Rattle.conversions.specs.declared.Position.{Position}
use Rattle.conversions.specs.Positions.{start_at}
use Rattle.conversions.specs.Dumping.{first_line}

abbrev pub no_breach : Position → ℕ
no_breach p = 0

abbrev pub begun_with : ℕ → Position
begun_with n = start_at n first_line
