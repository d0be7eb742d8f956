-- What the host's tests say.
--
--   passes c        == the check c finds nothing to refuse
use Rattle.std.specs.Prelude.{Bool, true, false, Err, Ok}
use Rattle.rules.specs.Results.{Check}

abbrev pub passes : Check → Bool
passes (Ok _) = true
passes (Err r) = false
