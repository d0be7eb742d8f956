-- What the bench's caller answers.
--
--   Moved == what the arbiter drove in a cycle, or why the cycle was refused
use Rattle.std.specs.Prelude.{Result}
use Rattle.rules.specs.declared.Refusal.{Refusal}
use Rattle.rules.specs.declared.Outputs.{Outputs}

abbrev pub Moved : Type 0
Moved = Result Outputs Refusal
