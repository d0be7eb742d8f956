-- The contracts leave no choice: two results that meet the contract of a call are equal, refusals among them.
-- `Post` is the contract as the prover reads it: arguments, result, and the arguments at exit.
use Prim.Native.Nat.{ℕ}
use mathlib.Core.Path.{◌≡◌, sym, ◌∙◌}
use Rattle.rules.specs.Results.{Check}
use Rattle.rules.specs.declared.Inputs.{Inputs}
use Rattle.rules.specs.declared.Cycle.{Cycle}
use Rattle.signals.proofs.check_inputs.Reads as check_inputs
use Rattle.signals.proofs.check_cycle.Reads as check_cycle

module _ (n : ℕ) (r r' : Check) where
  pub check_inputs_unique : (x : Inputs) → check_inputs.Post tt (n, (x, tt)) r (n, (x, tt)) → check_inputs.Post tt (n, (x, tt)) r' (n, (x, tt)) → r ≡ r'
  check_inputs_unique x p q = p ∙ sym q

  pub check_cycle_unique : (c : Cycle) → check_cycle.Post tt (n, (c, tt)) r (n, (c, tt)) → check_cycle.Post tt (n, (c, tt)) r' (n, (c, tt)) → r ≡ r'
  check_cycle_unique c p q = p ∙ sym q
