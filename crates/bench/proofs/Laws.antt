-- What the caller says and holds, beside the plain step.
--
--   said_number     == the number of what it says is the number that the step answers
--   held_is_stepped == what it holds is the state that the step hands back
--   refused_unmoved == where it says a refusal, the state is the one that stood there
--   held_sound      == a well-formed state stays well formed behind the reference
use Rattle.std.specs.Prelude.{Err, None, Ok, Some}
use mathlib.Core.Path.{◌≡◌, refl}
use mathlib.Core.Bool.{not}
use Prim.Native.Nat.{ℕ}
use native.Mathlib.Omega.{arith}
use lib.Dec.{leb}
use Rattle.rules.specs.declared.Refusal.{Refusal}
use Rattle.rules.specs.Results.{Check, Found, Answer}
use Rattle.rules.specs.declared.State.{State}
use Rattle.rules.specs.declared.Inputs.{Inputs}
use Rattle.rules.specs.Refusals.{answer_of, state_of}
use Rattle.rules.specs.Codes.{most_cycles}
use Rattle.rules.specs.Valid.{inputs_check}
use Rattle.rules.specs.State.{well_formed, WellFormed}
use Rattle.rules.specs.Step.{chosen, answered, accepted, checked, step_of}
use Rattle.rules.proofs.Choice.{cond_elim}
use Rattle.rules.proofs.Taken.{decide, taken}
use Rattle.rules.proofs.Kept.{kept}
use Rattle.bench.specs.Bench.{said_of, moved_number, held_after}

pub said_number : (a : Answer) → moved_number (said_of a) ≡ answer_of a
said_number (Ok (t, o)) = refl
said_number (Err (r, t)) = refl

pub held_is_stepped : (s : State) (x : Inputs) → held_after s (step_of s x) ≡ state_of (step_of s x)
unfolding step_of accepted
held_is_stepped s x =
    cond_elim Same (not (well_formed s)) (λ _. refl)
    (λ _. cond_elim Same (leb most_cycles s.count) (λ _. refl) (λ _. tested (inputs_check s.n x)))
  where
    Same : Answer → Type 0
    Same a = held_after s a ≡ state_of a

    ended : (f : Found) → held_after s (answered f (decide s x) s x) ≡ state_of (answered f (decide s x) s x)
    ended None = refl
    ended (Some w) = refl

    tested : (c : Check) → held_after s (checked c s x) ≡ state_of (checked c s x)
    tested (Ok _) = ended (chosen s x (decide s x))
    tested (Err r) = refl

pub refused_unmoved : (s : State) (a : Answer) (r : Refusal) → said_of a ≡ Err r → held_after s a ≡ s
refused_unmoved s (Ok (t, o)) r e = let z : ◌≡◌ {A = ℕ} 0 1 = cc in absurd (omega arith)
refused_unmoved s (Err (q, t)) r e = refl

pub held_sound : (s : State) (x : Inputs) → WellFormed s → WellFormed (held_after s (step_of s x))
held_sound s x f = go (step_of s x) refl
  where
    go : (a : Answer) → step_of s x ≡ a → WellFormed (held_after s a)
    go (Ok (t, o)) e = kept s x t o (taken s x t o e)
    go (Err (r, t)) e = f
