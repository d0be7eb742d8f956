-- The guarantees that compare two cycles, and G1: each holds between any two consecutive cycles of the arbiter.
-- From the state q with the inputs y it goes to s, and shows p there and t in s.
--
--   some_single    == "some master with f and HGRANT", of a single grant bit, is f of the granted master
--   no_g1, no_g4 .. no_g10 == the rule is not broken
use Prim.Native.Nat.{ℕ, zero, suc, ◌<◌}
use mathlib.Core.Path.{◌≡◌, refl, sym, ◌∙◌, ap, subst}
use mathlib.Core.Bool.{Bool, true, false, not, ◌&&◌, ◌||◌, beq, cond, and-false, or-false}
use native.Mathlib.Omega.{arith}
use borrow.Author.Tests.{eqb-true, eqb-false, eq-eqb, ne_eqb}
use lib.Dec.{eqb}
use Rattle.rules.specs.declared.State.{State}
use Rattle.rules.specs.declared.Inputs.{Inputs}
use Rattle.rules.specs.declared.Outputs.{Outputs}
use Rattle.rules.specs.Codes.{ready}
use Rattle.rules.specs.Masks.{high, single, some_high}
use Rattle.rules.specs.Phase.{seen, handover}
use Rattle.rules.specs.Step.{flag_of, owner_after, lock_after}
use Rattle.rules.proofs.Choice.{either, order, differ}
use Rattle.rules.proofs.Winner.{winner_ended}
use Rattle.rules.proofs.Taken.{Taken, decide, next_g, next_m, next_lock}
use Rattle.rules.proofs.Decision.{decides_low, chosen_zero}
use Rattle.rulebook.specs.Columns.{request, lock, grant, some_below, some_master}
use Rattle.rulebook.specs.Rules.{differ as differs, g1, g4, g5, g6, g7, g8, g9, g10}
use Rattle.rulebook.proofs.Counts.{some_none}
use Rattle.promises.proofs.Served.{falls_when_ready, grant_kept, grant_won, granted_raised, granted_falls}
use Rattle.promises.proofs.History.{cycle_of, shown_decided, shown_granted, shown_locked, shown_busreq, shown_request, shown_hgrant, shown_hmaster, shown_hmastlock, shown_grant, shown_handover}

pub some_single : (k g : ℕ) (f : ℕ → Bool) → g < k → some_below k (λ i. f i && eqb g i) ≡ f g
unfolding some_below
some_single zero g f h = absurd (omega arith)
some_single (suc k) g f h = go (eqb g k) refl (some_single k g f)
  where
    go : (b : Bool) → eqb g k ≡ b → (g < k → some_below k (λ i. f i && eqb g i) ≡ f g) → (some_below k (λ i. f i && eqb g i) || f k && eqb g k) ≡ f g
    go true e below =
        let q = eqb-true g k e in
        let none = some_none k (λ i. f i && eqb g i) (λ i l. rw (ne_eqb g i (λ r. omega arith)) (and-false (f i))) in
        rw (none, e, ← q) (either (f g) (λ t. rw t) (λ t. rw t))
    go false e below =
        let l : g < k = order_of (eqb-false g k e) in
        rw (below l, e) (rw and-false (or-false (f g)))
      where
        order_of : (g ≡ k → ⊥) → g < k
        order_of ne = order k g (λ q. absurd (ne (omega arith))) (λ q. q)

contradictory : (b : Bool) → (b && not b) ≡ false
contradictory true = refl
contradictory false = refl

same_flag : (a b : Bool) → a ≡ b → not (beq a b) ≡ false
same_flag true b e = rw (← e)
same_flag false b e = rw (← e)

same_number : (a b : ℕ) → a ≡ b → differs a b ≡ false
same_number a b e = rw (eq-eqb a b e)

pub no_g1 : (s : State) (x : Inputs) → g1 (cycle_of s x) ≡ false
no_g1 s x = same_flag _ _ (shown_busreq s x ∙ sym (shown_request s x))

module _ (q : State) (y : Inputs) (s : State) (o : Outputs) (k : Taken q y s o) (x : Inputs) where
  pub no_g4 : g4 (cycle_of q y) (cycle_of s x) ≡ false
  no_g4 = rw (shown_decided q y, shown_granted s x) (go (decide q y) (some_high y.hbusreq) refl refl)
    where
      go : (d r : Bool) → decide q y ≡ d → some_high y.hbusreq ≡ r → (d && r && not s.granted) ≡ false
      go true true e f = rw (granted_raised q y s o k e f)
      go true false e f = refl
      go false r e f = refl

  pub no_g5 : g5 (cycle_of q y) (cycle_of s x) ≡ false
  no_g5 = rw (shown_granted q y, shown_granted s x) (go q.granted (decide q y) refl refl)
    where
      tell : (r : Bool) → beq (cond r false true) r ≡ false
      tell true = refl
      tell false = refl

      held : q.granted ≡ true → decide q y ≡ false → s.granted ≡ cond (ready y) false true
      held g d = granted_falls q y s o k d ∙ falls_when_ready q.granted (ready y) g

      go : (g d : Bool) → q.granted ≡ g → decide q y ≡ d → (g && beq s.granted (ready y)) ≡ false
      go true true e f = absurd (differ q.granted e (decides_low q (seen q y) f))
      go true false e f = rw (held e f) (tell (ready y))
      go false d e f = refl

  -- the owner after a ready cycle is the granted master
  owner_next : ready y ≡ true → s.m ≡ q.g
  unfolding owner_after
  owner_next r = next_m q y s o k ∙ go q.granted refl
    where
      go : (g : Bool) → q.granted ≡ g → cond (q.granted && ready y) q.g q.m ≡ q.g
      go true e = simp (e, r)
      go false e = simp e (sym (k.sound.together e))

  pub no_g6 : g6 (cycle_of q y) (cycle_of s x) ≡ false
  no_g6 =
      either (ready y)
      (λ r. rw r (same_number _ _ (shown_hgrant q y ∙ ap single (sym (shown_hmaster s x ∙ owner_next r)))))
      (λ r. rw r)

  pub no_g7 : g7 (cycle_of q y) (cycle_of s x) ≡ false
  unfolding lock_after
  no_g7 =
      rw (shown_handover q y, shown_locked s x, next_lock q y s o k, locked_grant) (go (handover q y))
    where
      locked_grant : some_master (λ i. lock i (cycle_of q y) && grant i (cycle_of q y)) ≡ high y.hlock q.g
      locked_grant =
          simp (shown_grant q y)
          (some_single 16 q.g (λ i. high y.hlock i) (omega (arith, k.sound.grant, k.sound.many)))

      go : (h : Bool) → (h && high y.hlock q.g && not (cond h (high y.hlock q.g) q.hmastlock)) ≡ false
      go true = contradictory (high y.hlock q.g)
      go false = refl

  pub no_g8 : g8 (cycle_of q y) (cycle_of s x) ≡ false
  unfolding owner_after lock_after
  no_g8 =
      rw (shown_handover q y, shown_hmaster q y, shown_hmaster s x, shown_hmastlock q y, shown_hmastlock s x, next_m q y s o k, next_lock q y s o k)
      (go (handover q y))
    where
      go : (h : Bool) → (not h && (differs q.m (cond h q.g q.m) || differs (flag_of q.hmastlock) (flag_of (cond h (high y.hlock q.g) q.hmastlock)))) ≡ false
      go true = refl
      go false = rw (eq-eqb q.m q.m refl, eq-eqb (flag_of q.hmastlock) (flag_of q.hmastlock) refl)

  pub no_g9 : g9 (cycle_of q y) (cycle_of s x) ≡ false
  no_g9 =
      rw (shown_decided q y, shown_hgrant q y, shown_hgrant s x)
      (either (decide q y)
      (λ d. rw d)
      (λ d. rw d (same_number (single q.g) (single s.g) (ap single (sym (grant_kept q y s o k d))))))

  -- a grant that moves goes to a master that requests, or to master 0
  new_grant : (i : ℕ) → eqb s.g i ≡ true → (not (eqb i 0) && not (eqb q.g i) && not (high y.hbusreq i)) ≡ false
  new_grant i at = go (decide q y) (some_high y.hbusreq) refl refl
    where
      is : s.g ≡ i
      is = eqb-true s.g i at

      go : (d r : Bool) → decide q y ≡ d → some_high y.hbusreq ≡ r → (not (eqb i 0) && not (eqb q.g i) && not (high y.hbusreq i)) ≡ false
      go true true d r =
          let won = (winner_ended q.n q.g y.hbusreq s.g (omega (arith, k.sound.few)) (grant_won q y s o k d r)).requests in
          rw (subst (λ (j : ℕ). high y.hbusreq j ≡ true) is won) (and-false (not (eqb i 0) && not (eqb q.g i)))
      go true false d r =
          let zero_now : i ≡ 0 = sym is ∙ next_g q y s o k ∙ chosen_zero q y k.w r (rw d at k.chose) in
          rw (eq-eqb i 0 zero_now)
      go false r d e =
          let same : q.g ≡ i = sym (grant_kept q y s o k d) ∙ is in
          rw (eq-eqb q.g i same) (rw (and-false (not (eqb i 0))))

  pub no_g10 : g10 (cycle_of q y) (cycle_of s x) ≡ false
  no_g10 = rw (no_stray, shown_decided q y, shown_grant s x 0) (go (decide q y) (some_high y.hbusreq) refl refl)
    where
      stray : (i : ℕ) → (not (eqb i 0) && not (grant i (cycle_of q y)) && not (high y.hbusreq i) && grant i (cycle_of s x)) ≡ false
      stray i =
          rw (shown_grant q y i, shown_grant s x i)
          (either (eqb s.g i)
          (λ e. rw (new_grant i e))
          (λ e. rw e (and-false (not (eqb i 0) && not (eqb q.g i) && not (high y.hbusreq i)))))

      no_stray : some_master (λ i. not (eqb i 0) && not (grant i (cycle_of q y)) && not (request i (cycle_of q y)) && grant i (cycle_of s x)) ≡ false
      no_stray = some_none 16 _ (λ i l. stray i)

      go : (d r : Bool) → decide q y ≡ d → some_high y.hbusreq ≡ r → (d && not r && not (eqb s.g 0)) ≡ false
      go true true d r = refl
      go true false d r = rw (eq-eqb s.g 0 (next_g q y s o k ∙ chosen_zero q y k.w r (rw d at k.chose)))
      go false r d e = refl
