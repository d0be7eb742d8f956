-- The arbiter of document 01 serves in turn.
--
--   turns_of s i == how many decisions master i can still lose in the state s
--   loss_nearer  == a decision that a requesting master loses brings its turn nearer
--   served       == all the laws together
use Rattle.std.specs.Prelude.{Some}
use Prim.Native.Nat.{ℕ, ◌<◌}
use mathlib.Core.Path.{◌≡◌, refl, sym, ◌∙◌, ap}
use mathlib.Core.Bool.{Bool, true, false, ◌&&◌, cond, true≢false, false≢true}
use Rattle.rules.specs.declared.State.{State}
use Rattle.rules.specs.declared.Inputs.{Inputs}
use Rattle.rules.specs.declared.Outputs.{Outputs}
use Rattle.rules.specs.Masks.{high, some_high}
use Rattle.rules.specs.Winner.{winner}
use Rattle.rules.specs.Phase.{seen}
use Rattle.rules.specs.Step.{granted_after}
use Rattle.rules.proofs.Masks.{high_some}
use Rattle.rules.proofs.Winner.{turns, winner_won}
use Rattle.rules.proofs.Taken.{Taken, taken, decide, next_n, next_g, next_granted}
use Rattle.rules.proofs.Decision.{decides_low, chosen_kept, chosen_won}
use Rattle.promises.specs.Machines.{arbiter, InTurn}

abbrev pub turns_of : State → ℕ → ℕ
turns_of s i = turns s.n s.g i

-- GRANTED after a cycle without a decision: g before it, r HREADY
pub stays_low : (g r : Bool) → g ≡ false → cond (g && r) false g ≡ false
stays_low true r e = absurd (true≢false e)
stays_low false r e = refl

pub falls_when_ready : (g r : Bool) → g ≡ true → cond (g && r) false g ≡ cond r false true
falls_when_ready true r e = refl
falls_when_ready false r e = absurd (false≢true e)

module _ (s : State) (x : Inputs) (s' : State) (o : Outputs) (k : Taken s x s' o) where
  pub grant_kept : decide s x ≡ false → s'.g ≡ s.g
  grant_kept d = next_g s x s' o k ∙ chosen_kept s x k.w (rw d at k.chose)

  pub grant_won : decide s x ≡ true → some_high x.hbusreq ≡ true → winner s.n s.g x.hbusreq ≡ Some s'.g
  grant_won d some = chosen_won s x k.w some (rw d at k.chose) ∙ ap Some (sym (next_g s x s' o k))

  pub loss_nearer : decide s x ≡ true → (i : ℕ) → i < s.n → high x.hbusreq i ≡ true → (s'.g ≡ i → ⊥) → turns_of s' i < turns_of s i
  loss_nearer d i hi asks ne =
      let v = winner_won s.n s.g x.hbusreq i hi asks in
      let at : v.at ≡ s'.g = (let f = v.found in let w = grant_won d (high_some x.hbusreq i asks) in cc) in
      rw (next_n s x s' o k, ← at) (v.nearer (λ q. ne (sym at ∙ q)))

  pub turns_kept : decide s x ≡ false → (i : ℕ) → turns_of s' i ≡ turns_of s i
  turns_kept d i = rw (next_n s x s' o k, grant_kept d)

  pub granted_raised : decide s x ≡ true → some_high x.hbusreq ≡ true → s'.granted ≡ true
  unfolding granted_after
  granted_raised d some = next_granted s x s' o k ∙ simp (d, some)

  pub granted_falls : decide s x ≡ false → s'.granted ≡ cond (s.granted && Rattle.rules.specs.Codes.ready x) false s.granted
  unfolding granted_after
  granted_falls d = next_granted s x s' o k ∙ rw d

pub served : InTurn arbiter decide turns_of
served =
    record {
      masters = λ s x s' o e. next_n s x s' o (taken s x s' o e);
      low = λ s x d. decides_low s (seen s x) d;
      raised = λ s x s' o e. granted_raised s x s' o (taken s x s' o e);
      falls = λ s x s' o e. granted_falls s x s' o (taken s x s' o e);
      stays = λ s x s' o e. grant_kept s x s' o (taken s x s' o e);
      waits = λ s x s' o e. turns_kept s x s' o (taken s x s' o e);
      nearer = λ s x s' o e. loss_nearer s x s' o (taken s x s' o e);
    }
