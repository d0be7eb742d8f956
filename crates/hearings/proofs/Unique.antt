-- The contracts leave no choice: two answers that meet the contract of a call are equal, and so is every byte of the buffers at exit.
-- `Post` is the contract as the prover reads it: lifetimes, arguments, result, and the arguments at exit.
use Prim.Native.Nat.{ℕ}
use mathlib.Core.Path.{◌≡◌, sym, ◌∙◌}
use mathlib.Core.List.{List}
use contract.Lifetimes.{Lfts}
use denote.MutBor.{MutBor}
use Rattle.rules.specs.declared.Cycle.{Cycle}
use Rattle.rulebook.specs.Results.{Verdict}
use Rattle.hearings.proofs.step.Reads as step
use Rattle.hearings.proofs.start.Reads as start

abbrev Buffer : Type 0
Buffer = MutBor (List ℕ)

module _ (κs : Lfts 2) (c : Cycle) (judge broken : Buffer) where
  -- the verdict r, with the two buffers at exit
  abbrev StepMeets : Verdict → Buffer → Buffer → Type 0
  StepMeets r judge' broken' = step.Post κs (c, (judge, (broken, tt))) r (c, (judge', (broken', tt)))

  pub step_unique : (r r' : Verdict) (j j' m m' : Buffer) → StepMeets r j m → StepMeets r' j' m' → (r ≡ r') × (j.now ≡ j'.now) × (m.now ≡ m'.now)
  step_unique r r' j j' m m' p q = (p.0 ∙ sym q.0, p.1 ∙ sym q.1, p.2 ∙ sym q.2)

module _ (κs : Lfts 1) (n : ℕ) (judge : Buffer) where
  abbrev StartMeets : Verdict → Buffer → Type 0
  StartMeets r judge' = start.Post κs (n, (judge, tt)) r (n, (judge', tt))

  pub start_unique : (r r' : Verdict) (j j' : Buffer) → StartMeets r j → StartMeets r' j' → (r ≡ r') × (j.now ≡ j'.now)
  start_unique r r' j j' p q = (p.0 ∙ sym q.0, p.1 ∙ sym q.1)
