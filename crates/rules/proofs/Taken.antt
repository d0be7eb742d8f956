-- What a step that was taken shows, and what follows it: the one inversion from which every law of a step is read.
--
--   Taken s x s' o == the facts of a step from s by x to s' that shows o
--   taken          == a step that answers Next has them
--   next_n, next_g, next_m, next_lock, next_granted, next_phase, next_count == the fields of s'
use Rattle.std.specs.Prelude.{Err, None, Ok, Some}
use Prim.Native.Nat.{ℕ, ◌+◌, ◌<◌}
use mathlib.Core.Path.{◌≡◌, refl, ap, sym}
use mathlib.Core.Bool.{Bool, true, false}
use native.Mathlib.Omega.{arith}
use borrow.Author.Tests.{leb-false}
use lib.Dec.{leb}
use Rattle.rules.specs.declared.Refusal.{Refusal}
use Rattle.rules.proofs.Parts.{ok_parts}
use Rattle.rules.specs.Results.{Check, Found, Answer}
use Rattle.rules.specs.declared.State.{State}
use Rattle.rules.specs.declared.Inputs.{Inputs}
use Rattle.rules.specs.declared.Outputs.{Outputs}
use Rattle.rules.specs.Codes.{most_cycles}
use Rattle.rules.specs.Valid.{inputs_check}
use Rattle.rules.specs.State.{well_formed, WellFormed}
use Rattle.rules.specs.Phase.{seen, phase_after, decides}
use Rattle.rules.specs.Step.{chosen, granted_after, owner_after, lock_after, moved, shown, accepted, step_of}
use Rattle.rules.proofs.WellFormed.{facts_of}

-- DECIDE in state s with inputs x
abbrev pub decide : State → Inputs → Bool
decide s x = decides s (seen s x)

pub record Taken (s : State) (x : Inputs) (s' : State) (o : Outputs) : Type 0 where
  pub sound : WellFormed s
  pub room : s.count < most_cycles
  pub good : inputs_check s.n x ≡ Ok tt
  pub w : ℕ
  pub chose : chosen s x (decide s x) ≡ Some w
  pub moves : s' ≡ moved s x (decide s x) w
  pub shows : o ≡ shown s (seen s x) (decide s x)

pub taken : (s : State) (x : Inputs) (s' : State) (o : Outputs) → step_of s x ≡ Ok (s', o) → Taken s x s' o
unfolding step_of accepted
taken s x s' o e = go (well_formed s) (leb most_cycles s.count) (inputs_check s.n x) (chosen s x (decide s x)) refl refl refl refl e
  where
    never : (r : Refusal) (t : State) → ◌≡◌ {A = Answer} (Err (r, t)) (Ok (s', o)) → ⊥
    never r t q = let z : ◌≡◌ {A = ℕ} 0 1 = cc in omega arith

    go : (a b : Bool) (c : Check) (f : Found) → well_formed s ≡ a → leb most_cycles s.count ≡ b → inputs_check s.n x ≡ c → chosen s x (decide s x) ≡ f → step_of s x ≡ Ok (s', o) → Taken s x s' o
    go true false (Ok _) (Some w) p q r t u =
        let v = simp (p, q, r, t) at u in
        record {
          sound = facts_of s p;
          room = leb-false 1000000 s.count q;
          good = r;
          w = w;
          chose = t;
          moves = sym (ok_parts v).0;
          shows = sym (ok_parts v).1;
        }
    go true false (Ok _) None p q r t u = absurd (never _ _ (simp (p, q, r, t) at u))
    go true false (Err f) h p q r t u = absurd (never _ _ (simp (p, q, r) at u))
    go true true c f p q r t u = absurd (never _ _ (simp (p, q) at u))
    go false b c f p q r t u = absurd (never _ _ (simp p at u))

module _ (s : State) (x : Inputs) (s' : State) (o : Outputs) (k : Taken s x s' o) where
  pub next_n : s'.n ≡ s.n
  unfolding moved
  next_n = ap (λ (u : State). u.n) k.moves

  pub next_g : s'.g ≡ k.w
  unfolding moved
  next_g = ap (λ (u : State). u.g) k.moves

  pub next_m : s'.m ≡ owner_after s x
  unfolding moved
  next_m = ap (λ (u : State). u.m) k.moves

  pub next_lock : s'.hmastlock ≡ lock_after s x
  unfolding moved
  next_lock = ap (λ (u : State). u.hmastlock) k.moves

  pub next_granted : s'.granted ≡ granted_after s x (decide s x)
  unfolding moved
  next_granted = ap (λ (u : State). u.granted) k.moves

  pub next_phase : s'.phase ≡ phase_after s (seen s x)
  unfolding moved
  next_phase = ap (λ (u : State). u.phase) k.moves

  pub next_count : s'.count ≡ s.count + 1
  unfolding moved
  next_count = ap (λ (u : State). u.count) k.moves
