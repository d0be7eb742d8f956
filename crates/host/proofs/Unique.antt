-- The contracts leave no choice: two answers that meet the contract of a call are equal, and so is every byte of the buffers at exit.
-- `Post` is the contract as the prover reads it: lifetimes, arguments, result, and the arguments at exit.
use Prim.Native.Nat.{ℕ}
use mathlib.Core.Path.{◌≡◌}
use mathlib.Core.List.{List}
use contract.Lifetimes.{Lfts}
use denote.MutBor.{MutBor}
use Rattle.hosting.specs.Calls.{lent, as_line, as_numbers}
use Rattle.hosting.proofs.Calls.{step_call_unique, reset_call_unique}
use Rattle.host.proofs.espigambre_step.Reads as step
use Rattle.host.proofs.espigambre_step_outputs.Reads as outputs
use Rattle.host.proofs.espigambre_reset.Reads as reset

abbrev Buffer : Type 0
Buffer = MutBor (List ℕ)

module _ (κs : Lfts 2) (hbusreq hlock hready htrans hburst : ℕ) (state shown : Buffer) where
  -- the answer r, with the two buffers at exit
  abbrev StepMeets : ℕ → Buffer → Buffer → Type 0
  StepMeets r state' shown' =
      step.Post κs (hbusreq, (hlock, (hready, (htrans, (hburst, (state, (shown, tt))))))) r (hbusreq, (hlock, (hready, (htrans, (hburst, (state', (shown', tt)))))))

  abbrev OutputsMeets : ℕ → Buffer → Buffer → Type 0
  OutputsMeets r state' shown' =
      outputs.Post κs (hbusreq, (hlock, (hready, (htrans, (hburst, (state, (shown, tt))))))) r (hbusreq, (hlock, (hready, (htrans, (hburst, (state', (shown', tt)))))))

  pub step_unique : (r r' : ℕ) (s s' l l' : Buffer) → StepMeets r s l → StepMeets r' s' l' → (r ≡ r') × (s.now ≡ s'.now) × (l.now ≡ l'.now)
  step_unique r r' s s' l l' p q =
      step_call_unique as_line (lent hbusreq hlock hready htrans hburst) state.now shown.now r r' s.now s'.now l.now l'.now p q

  pub outputs_unique : (r r' : ℕ) (s s' l l' : Buffer) → OutputsMeets r s l → OutputsMeets r' s' l' → (r ≡ r') × (s.now ≡ s'.now) × (l.now ≡ l'.now)
  outputs_unique r r' s s' l l' p q =
      step_call_unique as_numbers (lent hbusreq hlock hready htrans hburst) state.now shown.now r r' s.now s'.now l.now l'.now p q

module _ (κs : Lfts 1) (n : ℕ) (state : Buffer) where
  abbrev ResetMeets : ℕ → Buffer → Type 0
  ResetMeets r state' = reset.Post κs (n, (state, tt)) r (n, (state', tt))

  pub reset_unique : (r r' : ℕ) (s s' : Buffer) → ResetMeets r s → ResetMeets r' s' → (r ≡ r') × (s.now ≡ s'.now)
  reset_unique r r' s s' p q = reset_call_unique n state.now r r' s.now s'.now p q
