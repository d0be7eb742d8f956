-- What a C simulator lends and gets.
--
--   Lent    == what lent state bytes are: a state, well formed or not, or bytes that no state has
--   Outcome == what a call comes to: the state after the cycle and the cycle to show, or a refusal
use Rattle.std.specs.Prelude.{Option, Result}
use Rattle.rules.specs.declared.Refusal.{Refusal}
use Rattle.rules.specs.declared.State.{State}
use Rattle.rules.specs.declared.Cycle.{Cycle}

abbrev pub Lent : Type 0
Lent = Option State

abbrev pub Outcome : Type 0
Outcome = Result (State × Cycle) Refusal
