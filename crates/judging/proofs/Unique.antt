-- The contracts leave no choice: two results that meet the contract of a call are equal, refusals among them.
-- `Post` is the contract as the prover reads it: arguments, result, and the arguments at exit.
use Prim.Native.Nat.{ℕ}
use mathlib.Core.Path.{◌≡◌, sym, ◌∙◌}
use mathlib.Core.Bool.{Bool}
use Rattle.rules.specs.declared.Cycle.{Cycle}
use Rattle.rulebook.specs.declared.Judge.{Judge}
use Rattle.rulebook.specs.declared.Started.{Started}
use Rattle.rulebook.specs.declared.Judgement.{Judgement}
use Rattle.judging.proofs.start.Reads as start
use Rattle.judging.proofs.well_formed.Reads as well_formed
use Rattle.judging.specs.declared.Ruled.{Ruled}
use Rattle.judging.proofs.rule.Reads as rule
use Rattle.judging.proofs.step.Reads as step

pub start_unique : (n : ℕ) (a a' : Started) → start.Post tt (n, tt) a (n, tt) → start.Post tt (n, tt) a' (n, tt) → a ≡ a'
start_unique n a a' p q = p ∙ sym q

pub well_formed_unique : (j : Judge) (b b' : Bool) → well_formed.Post tt (j, tt) b (j, tt) → well_formed.Post tt (j, tt) b' (j, tt) → b ≡ b'
well_formed_unique j b b' p q = p ∙ sym q

pub rule_unique : (j : Judge) (c : Cycle) (a a' : Ruled) → rule.Post tt (j, (c, tt)) a (j, (c, tt)) → rule.Post tt (j, (c, tt)) a' (j, (c, tt)) → a ≡ a'
rule_unique j c a a' p q = p ∙ sym q

pub step_unique : (j : Judge) (c : Cycle) (a a' : Judgement) → step.Post tt (j, (c, tt)) a (j, (c, tt)) → step.Post tt (j, (c, tt)) a' (j, (c, tt)) → a ≡ a'
step_unique j c a a' p q = p ∙ sym q
