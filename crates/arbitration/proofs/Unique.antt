-- The contracts leave no choice: two results that meet the contract of a call are equal, refusals among them.
-- `Post` is the contract as the prover reads it: arguments, result, and the arguments at exit.
use Prim.Native.Nat.{ℕ}
use mathlib.Core.Path.{◌≡◌, sym, ◌∙◌}
use mathlib.Core.Bool.{Bool}
use Rattle.rules.specs.declared.State.{State}
use Rattle.rules.specs.declared.Inputs.{Inputs}
use Rattle.rules.specs.Results.{Start, Answer}
use Rattle.arbitration.proofs.reset.Reads as reset
use Rattle.arbitration.proofs.well_formed.Reads as well_formed
use Rattle.arbitration.proofs.step.Reads as step

pub reset_unique : (n : ℕ) (r r' : Start) → reset.Post tt (n, tt) r (n, tt) → reset.Post tt (n, tt) r' (n, tt) → r ≡ r'
reset_unique n r r' p q = p ∙ sym q

pub well_formed_unique : (s : State) (b b' : Bool) → well_formed.Post tt (s, tt) b (s, tt) → well_formed.Post tt (s, tt) b' (s, tt) → b ≡ b'
well_formed_unique s b b' p q = p ∙ sym q

pub step_unique : (s : State) (x : Inputs) (r r' : Answer) → step.Post tt (s, (x, tt)) r (s, (x, tt)) → step.Post tt (s, (x, tt)) r' (s, (x, tt)) → r ≡ r'
step_unique s x r r' p q = p ∙ sym q
