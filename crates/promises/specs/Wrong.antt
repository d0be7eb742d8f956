-- Four wrong arbiters, each given by its step. The promises shut them out (proofs/Wrong.antt).
-- The last three refuse exactly what the step of document 01 refuses.
--
--   refusing   == refuses every cycle
--   favouring  == grants master 0 for ever
--   untouching == returns its state untouched
--   repeating  == arbitrates the first cycle and then repeats its grants
use Rattle.std.specs.Prelude.{false, cond, eqb, Err, Ok}
use Rattle.rules.specs.declared.Refusal.TheVariants as refusal
use Rattle.rules.specs.declared.State.{State}
use Rattle.rules.specs.declared.Inputs.{Inputs}
use Rattle.rules.specs.Results.{Answer}
use Rattle.rules.specs.Phase.{seen, decides}
use Rattle.rules.specs.Step.{moved, shown, step_of}

unfoldable pub refusing : State → Inputs → Answer
refusing s x = Err (refusal.State, s)

-- what an accepted cycle answers is put in its place
abbrev instead : Answer → Answer → Answer
instead (Ok (s, o)) a = a
instead (Err (r, s)) a = Err (r, s)

unfoldable pub favouring : State → Inputs → Answer
favouring s x =
    instead (step_of s x) (Ok (moved s x (decides s (seen s x)) 0, shown s (seen s x) (decides s (seen s x))))

unfoldable pub untouching : State → Inputs → Answer
untouching s x = instead (step_of s x) (Ok (s, shown s (seen s x) (decides s (seen s x))))

-- cycle 0 is that of document 01; after it DECIDE is low and the grant stays
unfoldable pub repeating : State → Inputs → Answer
repeating s x =
    cond (eqb s.count 0) (step_of s x) (instead (step_of s x) (Ok (moved s x false s.g, shown s (seen s x) false)))
