-- Each of the four wrong arbiters breaks a promise. At most one run of each is needed: eleven ready cycles with two masters, in which both
-- request from the start and nobody locks.
--
--   *_is_shut_out     == all the promises together
--   *_leaves_the_page == FollowsThePage alone, of the three that take a cycle
use Prim.Native.Nat.{ℕ, ◌<◌}
use mathlib.Core.Path.{◌≡◌, refl, sym, ◌∙◌, ap}
use mathlib.Core.Bool.{Bool, true, false, false≢true}
use mathlib.Core.List.{List, [], ◌∷◌}
use native.Mathlib.Omega.{arith}
use lib.ListN.{length}
use Rattle.rules.specs.declared.Phase.TheVariants.{Fresh}
use Rattle.rules.specs.declared.State.{State}
use Rattle.rules.specs.declared.Inputs.{Inputs}
use Rattle.rules.specs.declared.Outputs.{Outputs}
use Rattle.rules.specs.Results.{Answer}
use Rattle.rules.specs.Codes.{burst_of}
use Rattle.rules.specs.Masks.{high}
use Rattle.rules.specs.Valid.{inputs_too_large, inputs_not_built, inputs_absent, inputs_check}
use Rattle.rules.specs.Winner.{next, walk, winner}
use Rattle.rules.specs.State.{reset_state, reset_of, phase_ok, well_formed}
use Rattle.rules.specs.Phase.{seen, phase_after, opens_later, decides}
use Rattle.rules.specs.Step.{chosen, granted_after, owner_after, lock_after, moved, shown, accepted, step_of}
use Rattle.rules.proofs.Masks.{high_of_zero}
use Rattle.promises.specs.Machines.{Machine, machine_of}
use Rattle.promises.specs.Runs.{Run, stop, more, Reached, readies, Requests, Unlocked, handed_by}
use Rattle.promises.specs.Promises.{FollowsThePage, Promised}
use Rattle.promises.specs.Wrong.{refusing, favouring, untouching, repeating}

-- both masters request, ready, IDLE
abbrev asking : Inputs
asking = record { hbusreq = 3; hlock = 0; hready = 1; htrans = 0; hburst = 0 }

pub refusing_is_shut_out : Promised refusing → ⊥
unfolding refusing well_formed phase_ok inputs_check inputs_too_large inputs_not_built inputs_absent burst_of
refusing_is_shut_out p =
    let a = p.never_refuses (reset_state 2) asking refl (omega arith) refl in
    let e = a.2 in
    let z : ◌≡◌ {A = ℕ} 0 1 = cc in omega arith

-- a step that never hands one of the masters the bus in eleven such cycles from reset breaks the ready-cycle bound
abbrev eleven : List Inputs
eleven = asking ∷ asking ∷ asking ∷ asking ∷ asking ∷ asking ∷ asking ∷ asking ∷ asking ∷ asking ∷ asking ∷ []

-- in such cycles nobody locks, both masters request, and HREADY is high
abbrev AllAsking : List Inputs → Type 0
AllAsking [] = Unit {0}
AllAsking (x ∷ l) = (x ≡ asking) × AllAsking l

module _ {M : Machine} where
  nobody_locks : {s t : M.Place} {xs : List Inputs} (r : Run M s xs t) → AllAsking xs → Unlocked r
  unfolding Unlocked
  nobody_locks stop h = tt
  nobody_locks (more {x = x} e r) h = (λ i. rw h.0 (high_of_zero i), nobody_locks r h.1)

  one_requests : (i : ℕ) → high asking.hbusreq i ≡ true → {s t : M.Place} {xs : List Inputs} (r : Run M s xs t) → AllAsking xs → Requests i r
  unfolding Requests
  one_requests i a stop h = tt
  one_requests i a (more {x = x} e r) h = (rw h.0 a, one_requests i a r h.1)

  all_ready : {s t : M.Place} {xs : List Inputs} (r : Run M s xs t) → AllAsking xs → readies r ≡ length xs
  unfolding readies
  all_ready stop h = refl
  all_ready (more {x = x} e r) h = rw (h.0, all_ready r h.1) (omega arith)

starved : (step : State → Inputs → Answer) (i : ℕ) → i < 2 → high asking.hbusreq i ≡ true
    → (t : State) (r : Run (machine_of step) (reset_state 2) eleven t) → handed_by 11 i r ≡ false → Promised step → ⊥
unfolding reset_of
starved step i l a t r h p =
    let only : AllAsking eleven = (refl, (refl, (refl, (refl, (refl, (refl, (refl, (refl, (refl, (refl, (refl, tt))))))))))) in
    let here : Reached step 2 (reset_state 2) = record { first = reset_state 2; began = refl; inputs = []; run = stop } in
    let e = p.serves_soon 2 i (reset_state 2) t eleven here l refl r (nobody_locks r only) (one_requests i a r only) (omega (arith, all_ready r only)) in
    false≢true (sym h ∙ e)

-- master g is granted and m owns the bus after k cycles
abbrev standing : ℕ → ℕ → ℕ → Bool → State
standing g m k granted = record { n = 2; g = g; m = m; hmastlock = false; granted = granted; phase = Fresh; count = k }

-- the bus parked at master 0 after k cycles
abbrev parked : ℕ → Bool → State
parked k granted = standing 0 0 k granted

favouring_run : Run (machine_of favouring) (reset_state 2) eleven (parked 11 true)
unfolding favouring high burst_of inputs_too_large inputs_not_built inputs_absent inputs_check next walk winner phase_ok well_formed seen phase_after opens_later decides chosen granted_after owner_after lock_after moved shown accepted step_of
favouring_run =
    more {s' = parked 1 true} refl (more {s' = parked 2 false} refl (more {s' = parked 3 true} refl (more {s' = parked 4 false} refl (more {s' = parked 5 true} refl (more {s' = parked 6 false} refl (more {s' = parked 7 true} refl (more {s' = parked 8 false} refl (more {s' = parked 9 true} refl (more {s' = parked 10 false} refl (more {s' = parked 11 true} refl stop))))))))))

pub favouring_is_shut_out : Promised favouring → ⊥
favouring_is_shut_out = starved favouring 1 (omega arith) (unfold high in refl) (parked 11 true) favouring_run (unfold favouring_run handed_by in refl)

untouching_run : Run (machine_of untouching) (reset_state 2) eleven (parked 0 false)
unfolding untouching high burst_of inputs_too_large inputs_not_built inputs_absent inputs_check next walk winner phase_ok well_formed seen phase_after opens_later decides chosen granted_after owner_after lock_after moved shown accepted step_of
untouching_run =
    more {s' = parked 0 false} refl (more {s' = parked 0 false} refl (more {s' = parked 0 false} refl (more {s' = parked 0 false} refl (more {s' = parked 0 false} refl (more {s' = parked 0 false} refl (more {s' = parked 0 false} refl (more {s' = parked 0 false} refl (more {s' = parked 0 false} refl (more {s' = parked 0 false} refl (more {s' = parked 0 false} refl stop))))))))))

pub untouching_is_shut_out : Promised untouching → ⊥
untouching_is_shut_out = starved untouching 1 (omega arith) (unfold high in refl) (parked 0 false) untouching_run (unfold untouching_run handed_by in refl)

-- master 1 wins cycle 0, is handed the bus in cycle 1, and keeps it; master 0 is never handed it
repeating_run : Run (machine_of repeating) (reset_state 2) eleven (standing 1 1 11 false)
unfolding repeating high burst_of inputs_too_large inputs_not_built inputs_absent inputs_check next walk winner phase_ok well_formed seen phase_after opens_later decides chosen granted_after owner_after lock_after moved shown accepted step_of
repeating_run =
    more {s' = standing 1 0 1 true} refl (more {s' = standing 1 1 2 false} refl (more {s' = standing 1 1 3 false} refl (more {s' = standing 1 1 4 false} refl (more {s' = standing 1 1 5 false} refl (more {s' = standing 1 1 6 false} refl (more {s' = standing 1 1 7 false} refl (more {s' = standing 1 1 8 false} refl (more {s' = standing 1 1 9 false} refl (more {s' = standing 1 1 10 false} refl (more {s' = standing 1 1 11 false} refl stop))))))))))

pub repeating_is_shut_out : Promised repeating → ⊥
repeating_is_shut_out = starved repeating 0 (omega arith) (unfold high in refl) (standing 1 1 11 false) repeating_run (unfold repeating_run handed_by in refl)

-- The page alone shuts these three out, by one step. (Of a step that refuses it says nothing: there NeverRefuses does.)
-- master 1 is chosen, and master 0 granted
pub favouring_leaves_the_page : FollowsThePage favouring → ⊥
unfolding favouring high burst_of inputs_too_large inputs_not_built inputs_absent inputs_check next walk winner phase_ok well_formed seen phase_after opens_later decides chosen granted_after owner_after lock_after moved shown accepted step_of
favouring_leaves_the_page p =
    let e = (p (reset_state 2) asking (parked 1 true) _ refl).1 in
    let z : ◌≡◌ {A = ℕ} 1 0 = cc in omega arith

-- a cycle is counted
pub untouching_leaves_the_page : FollowsThePage untouching → ⊥
unfolding untouching high burst_of inputs_too_large inputs_not_built inputs_absent inputs_check next walk winner phase_ok well_formed seen phase_after opens_later decides chosen granted_after owner_after lock_after moved shown accepted step_of
untouching_leaves_the_page p =
    let e = (p (reset_state 2) asking (parked 0 false) _ refl).2 in
    let z = ap (λ (s : State). s.count) e in omega arith

-- a decision of a later cycle is not shown
pub repeating_leaves_the_page : FollowsThePage repeating → ⊥
unfolding repeating high burst_of inputs_too_large inputs_not_built inputs_absent inputs_check next walk winner phase_ok well_formed seen phase_after opens_later decides chosen granted_after owner_after lock_after moved shown accepted step_of
repeating_leaves_the_page p =
    let e = (p (standing 1 1 2 false) asking (standing 1 1 3 false) _ refl).0 in
    let z = ap (λ (o : Outputs). o.decide) e in omega arith
