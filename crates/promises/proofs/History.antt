-- Runs from reset with what they have shown so far, the newest cycle first, and the columns of a cycle that the arbiter shows.
--
--   cycle_of s x  == the cycle that the arbiter shows in the state s with the inputs x
--   History n s h == a run from reset with n masters that has shown the history h and stands in s
--   shown-*       == what the columns of such a cycle say
use Prim.Native.Nat.{ℕ}
use mathlib.Core.Path.{◌≡◌, refl, sym, ◌∙◌, ap, subst}
use mathlib.Core.Bool.{Bool, ◌&&◌}
use mathlib.Core.List.{List, [], ◌∷◌}
use native.Mathlib.Omega.{arith}
use lib.Dec.{eqb}
use lib.ListN.{length}
use Rattle.rules.specs.declared.State.{State}
use Rattle.rules.specs.declared.Inputs.{Inputs}
use Rattle.rules.specs.declared.Outputs.{Outputs}
use Rattle.rules.specs.declared.Cycle.{Cycle}
use Rattle.rules.specs.Codes.{ready}
use Rattle.rules.specs.Masks.{high, single}
use Rattle.rules.specs.Phase.{seen, handover}
use Rattle.rules.specs.Step.{flag_of, shown}
use Rattle.rules.proofs.Flags.{flag_again}
use Rattle.rules.proofs.Masks.{high_single}
use Rattle.rules.proofs.WellFormed.{Began, reset_sound}
use Rattle.rules.proofs.Taken.{Taken, decide, next_n, next_count}
use Rattle.rules.proofs.Kept.{kept}
use Rattle.rulebook.specs.Columns.{decided, granted, mastlocked, grant, owners_request, handover as handover_at}
use Rattle.promises.proofs.Fair.{Sound}

abbrev pub cycle_of : State → Inputs → Cycle
cycle_of s x = record { inputs = x; outputs = shown s (seen s x) (decide s x) }

pub data History (n : ℕ) : State → List Cycle → Type 0 where
  none : {s : State} → Began n s → History n s []
  then : {s s' : State} {h : List Cycle} (x : Inputs) {o : Outputs} → History n s h → Taken s x s' o → History n s' (cycle_of s x ∷ h)

pub history_sound : {n : ℕ} {s : State} {h : List Cycle} → History n s h → Sound n s
history_sound {n} (none b) =
    subst (Sound n) (sym b.is) (record { formed = reset_sound n b.few b.many; masters = refl })
history_sound (then {s = s} {s' = s'} x {o = o} d k) =
    record { formed = kept s x s' o k; masters = next_n s x s' o k ∙ (history_sound d).masters }

-- the arbiter counts its cycles
pub history_count : {n : ℕ} {s : State} {h : List Cycle} → History n s h → s.count ≡ length h
history_count (none b) = ap (λ (u : State). u.count) b.is
history_count (then {s = s} {s' = s'} x {o = o} d k) = let c = history_count d in omega (arith, next_count s x s' o k)

module _ (s : State) (x : Inputs) where
  pub shown_decided : decided (cycle_of s x) ≡ decide s x
  unfolding shown
  shown_decided = flag_again (decide s x)

  pub shown_granted : granted (cycle_of s x) ≡ s.granted
  unfolding shown
  shown_granted = flag_again s.granted

  pub shown_locked : mastlocked (cycle_of s x) ≡ s.hmastlock
  unfolding shown
  shown_locked = flag_again s.hmastlock

  pub shown_busreq : eqb (cycle_of s x).outputs.busreq 1 ≡ high x.hbusreq s.m
  unfolding shown seen
  shown_busreq = flag_again (high x.hbusreq s.m)

  pub shown_request : owners_request (cycle_of s x) ≡ high x.hbusreq s.m
  unfolding owners_request shown
  shown_request = refl

  pub shown_hgrant : (cycle_of s x).outputs.hgrant ≡ single s.g
  unfolding shown
  shown_hgrant = refl

  pub shown_hmaster : (cycle_of s x).outputs.hmaster ≡ s.m
  unfolding shown
  shown_hmaster = refl

  pub shown_hmastlock : (cycle_of s x).outputs.hmastlock ≡ flag_of s.hmastlock
  unfolding shown
  shown_hmastlock = refl

  pub shown_grant : (i : ℕ) → grant i (cycle_of s x) ≡ eqb s.g i
  shown_grant i = ap (λ (m : ℕ). high m i) shown_hgrant ∙ high_single s.g i

  pub shown_handover : handover_at (cycle_of s x) ≡ handover s x
  unfolding handover_at
  shown_handover = ap (λ (g : Bool). g && ready x) shown_granted
