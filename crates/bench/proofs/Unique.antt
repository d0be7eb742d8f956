-- The contract leaves no choice: two results that meet it are equal, and so are the two states behind the reference, refusals among them.
-- The borrow checker reads no contract of a `&mut` to a struct, so `contract_is` shows first that `Moves` is what the contract says.
use mathlib.Core.Path.{◌≡◌, refl, sym, ◌∙◌}
use seplogic.Ra.Ura.{Ura}
use base.Logic.{SProp}
use prog.Memory.{Memory}
use prog.Routine.{Routine}
use types.Logic.{Logic}
use contract.Lifetimes.{Lfts}
use contract.Monad.{Fun, fact}
use denote.MutBor.{MutBor}
use Rattle.rules.specs.declared.State.{State}
use Rattle.rules.specs.declared.Inputs.{Inputs}
use Rattle.rules.specs.Step.{step_of}
use Rattle.bench.specs.Results.{Moved}
use Rattle.bench.specs.Bench.{said_of, held_after}
use Rattle.bench.specs.contracts.advance as advance

-- the state at entry, the inputs, the result, and the state at exit
abbrev Moves : State → Inputs → Moved → State → Type 0
Moves s x r t = (r ≡ said_of (step_of s x)) × (t ≡ held_after s (step_of s x))

contract_is : {M : Type 1} {𝓤 : Ura M} (𝓛 : Logic 𝓤) (κs : Lfts 1) (mem : Memory → SProp 𝓤) (run : Routine → Fun 𝓤) (s t : MutBor State) (x : Inputs) (r : Moved)
    → advance.ensures-1 𝓛 κs mem run s x (record { entry = s; exit = t }) (record { entry = x; exit = x }) r ≡ fact 𝓤 (Moves s.now x r t.now)
contract_is 𝓛 κs mem run s t x r = refl

pub advance_unique : (s : State) (x : Inputs) (r r' : Moved) (t t' : State) → Moves s x r t → Moves s x r' t' → (r ≡ r') × (t ≡ t')
advance_unique s x r r' t t' p q = (p.0 ∙ sym q.0, p.1 ∙ sym q.1)
