-- What the bench's caller makes of the answer of a step: "one arbiter state moved on where it stands, by a thin caller over the plain step".
--
--   said_of a      == what the caller says of the answer a
--   moved_number v == the page's number of what the caller says: 0, or that of the refusal
--   held_after s a == the state that stands behind the reference after the answer a to a cycle that began in s
use Rattle.std.specs.Prelude.{ℕ, Err, Ok}
use Rattle.rules.specs.declared.State.{State}
use Rattle.rules.specs.Results.{Answer}
use Rattle.rules.specs.Refusals.{number_of}
use Rattle.bench.specs.Results.{Moved}

abbrev pub said_of : Answer → Moved
said_of (Ok (t, o)) = Ok o
said_of (Err (r, t)) = Err r

abbrev pub moved_number : Moved → ℕ
moved_number (Ok o) = 0
moved_number (Err r) = number_of r

-- "Every refusal returns its number with the state .. as given"
abbrev pub held_after : State → Answer → State
held_after s (Ok (t, o)) = t
held_after s (Err (r, t)) = s
