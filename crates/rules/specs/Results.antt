-- What the tests, the walk and the calls of the arbiter answer. A refusal is an error.
--
--   Check  == what a test finds: nothing wrong, or the first refusal that applies
--   Found  == where a walk round the masters ends: at a master, or nowhere
--   Start  == the answer of a reset: a state, or a refusal
--   Answer == the answer of a step: the state after the cycle and what was shown in it, or a refusal and the state as it came
use Rattle.std.specs.Prelude.{ℕ, Option, Result}
use Rattle.rules.specs.declared.Refusal.{Refusal}
use Rattle.rules.specs.declared.State.{State}
use Rattle.rules.specs.declared.Outputs.{Outputs}

abbrev pub Check : Type 0
Check = Result Unit Refusal

abbrev pub Found : Type 0
Found = Option ℕ

abbrev pub Start : Type 0
Start = Result State Refusal

abbrev pub Answer : Type 0
Answer = Result (State × Outputs) (Refusal × State)
