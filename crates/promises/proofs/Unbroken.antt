-- No guarantee is broken, and no protected burst is cut, at any cycle of a run from reset.
use Prim.Native.Nat.{ℕ, zero, suc, ◌<◌}
use mathlib.Core.Path.{◌≡◌, refl, sym, subst}
use mathlib.Core.Bool.{true, false, ◌&&◌, false≢true}
use mathlib.Core.List.{List, ◌∷◌}
use native.Mathlib.Omega.{arith}
use lib.ListN.{length}
use Rattle.rules.specs.declared.State.{State}
use Rattle.rules.specs.declared.Inputs.{Inputs}
use Rattle.rules.specs.declared.Outputs.{Outputs}
use Rattle.rules.specs.declared.Cycle.{Cycle}
use Rattle.rules.specs.State.{phase_ok}
use Rattle.rules.specs.Step.{step_of}
use Rattle.rules.proofs.WellFormed.{reset_is}
use Rattle.rules.proofs.Taken.{taken}
use Rattle.rulebook.specs.declared.Rule.{Rule}
use Rattle.rulebook.specs.declared.Rule.TheVariants.{A1, A2, A3, A4, A5, A6, A7, A8, A9, G1, G2, G3, G4, G5, G6, G7, G8, G9, G10, G11, G12}
use Rattle.rulebook.specs.Columns.{handover}
use Rattle.rulebook.specs.Traces.{access, Opened, not_yet, opened_at, opening, so_far_after}
use Rattle.rulebook.specs.Rules.{is_watched, cuts_incr, g2, broken, broken_at}
use Rattle.promises.specs.Machines.{arbiter}
use Rattle.promises.specs.Runs.{Run, stop, more, trace_of}
use Rattle.promises.specs.Promises.{is_guarantee, cut, cuts_locked_incr, cut_locked_incr, BreaksNoGuarantee, CutsNoBurst}
use Rattle.promises.proofs.Pairs.{no_g1, no_g4, no_g5, no_g6, no_g7, no_g8, no_g9, no_g10}
use Rattle.promises.proofs.Phases.{Stands, stands_next, no_g2, no_g3, no_cut}
use Rattle.promises.proofs.Losses.{no_g11, no_g12}
use Rattle.promises.proofs.History.{cycle_of, History, none, then, history_sound}

history_stands : {n : ℕ} {s : State} {h : List Cycle} → History n s h → Stands s.phase (opening (access h))
unfolding access opening
history_stands (none {s = s} b) = subst (λ (u : State). Stands u.phase not_yet) (sym b.is) tt
history_stands (then {s = s} {s' = s'} {h = h} x {o = o} d k) = stands_next s x s' o k h (history_stands d)

module _ (n : ℕ) where
  phase_fits : {s : State} {h : List Cycle} → History n s h → phase_ok s.phase s.granted s.hmastlock ≡ true
  phase_fits d = (history_sound d).formed.phase

  -- at the newest cycle of a history
  pub unbroken : {s : State} {h : List Cycle} → History n s h → (x : Inputs) → (g : Rule) → is_guarantee g ≡ true → broken n g (cycle_of s x ∷ h) ≡ false
  unfolding broken
  unbroken d x A1 e = absurd (false≢true e)
  unbroken d x A2 e = absurd (false≢true e)
  unbroken d x A3 e = absurd (false≢true e)
  unbroken d x A4 e = absurd (false≢true e)
  unbroken d x A5 e = absurd (false≢true e)
  unbroken d x A6 e = absurd (false≢true e)
  unbroken d x A7 e = absurd (false≢true e)
  unbroken d x A8 e = absurd (false≢true e)
  unbroken d x A9 e = absurd (false≢true e)
  unbroken {s = s} d x G1 e = no_g1 s x
  unbroken {s = s} {h = h} d x G2 e = no_g2 s x h (phase_fits d) (history_stands d)
  unbroken {s = s} {h = h} d x G3 e = no_g3 s x h (phase_fits d) (history_stands d)
  unbroken (none b) x G4 e = refl
  unbroken (then {s = q} {s' = s} y {o = o} d k) x G4 e = no_g4 q y s o k x
  unbroken (none b) x G5 e = refl
  unbroken (then {s = q} {s' = s} y {o = o} d k) x G5 e = no_g5 q y s o k x
  unbroken (none b) x G6 e = refl
  unbroken (then {s = q} {s' = s} y {o = o} d k) x G6 e = no_g6 q y s o k x
  unbroken (none b) x G7 e = refl
  unbroken (then {s = q} {s' = s} y {o = o} d k) x G7 e = no_g7 q y s o k x
  unbroken (none b) x G8 e = refl
  unbroken (then {s = q} {s' = s} y {o = o} d k) x G8 e = no_g8 q y s o k x
  unbroken (none b) x G9 e = refl
  unbroken (then {s = q} {s' = s} y {o = o} d k) x G9 e = no_g9 q y s o k x
  unbroken (none b) x G10 e = refl
  unbroken (then {s = q} {s' = s} y {o = o} d k) x G10 e = no_g10 q y s o k x
  unbroken d x G11 e = no_g11 n d x
  unbroken (none {s = s} b) x G12 e = no_g12 n s b x
  unbroken (then y d k) x G12 e = refl

  -- a locked INCR is what G2 watches
  no_locked_cut : {s : State} {h : List Cycle} → History n s h → (x : Inputs) → cut_locked_incr (cycle_of s x ∷ h) ≡ false
  unfolding cut_locked_incr is_watched
  no_locked_cut {s = s} {h = h} d x = same (opening (access h)) (unfold g2 in no_g2 s x h (phase_fits d) (history_stands d))
    where
      same : (a : Opened) → (handover (cycle_of s x) && cuts_incr (cycle_of s x) a) ≡ false → (handover (cycle_of s x) && cuts_locked_incr (cycle_of s x) a) ≡ false
      same not_yet e = e
      same (opened_at o later) e = e

  -- what holds at the newest cycle of every history holds at every place of a run's trace
  at_every_place : (P : List Cycle → Type 0) → ((s : State) (h : List Cycle) → History n s h → (x : Inputs) → P (cycle_of s x ∷ h))
      → {s t : State} {xs : List Inputs} {h : List Cycle} → History n s h → (r : Run arbiter s xs t) → (k : ℕ) → k < length (trace_of r) → P (so_far_after h (trace_of r) k)
  unfolding trace_of so_far_after
  at_every_place P now d stop k l = absurd (omega arith)
  at_every_place P now {h = h} d (more {s = s} {s' = s'} {o = o} {x = x} e r) zero l =
      let t = taken s x s' o e in
      subst (λ (u : Outputs). P (record { inputs = x; outputs = u } ∷ h)) (sym t.shows) (now s h d x)
  at_every_place P now {h = h} d (more {s = s} {s' = s'} {t = end} {o = o} {x = x} {xs = xs} e r) (suc k) l =
      let t = taken s x s' o e in
      subst (λ (u : Outputs). P (so_far_after (record { inputs = x; outputs = u } ∷ h) (trace_of r) k)) (sym t.shows)
      (at_every_place P now (then x d t) r k (omega arith))

pub breaks_no_guarantee : BreaksNoGuarantee step_of
unfolding broken_at
breaks_no_guarantee n s t xs began r g e k l =
    at_every_place n (λ h. broken n g h ≡ false) (λ u h d x. unbroken n d x g e) (none (reset_is n s began)) r k l

pub cuts_no_burst : CutsNoBurst step_of
cuts_no_burst n s t xs began r k l =
    at_every_place n (λ h. (cut h ≡ false) × (cut_locked_incr h ≡ false)) (λ u h d x. (no_fixed_cut d x, no_locked_cut n d x)) (none (reset_is n s began)) r k l
  where
    no_fixed_cut : {s : State} {h : List Cycle} → History n s h → (x : Inputs) → cut (cycle_of s x ∷ h) ≡ false
    no_fixed_cut {s = s} {h = h} d x = no_cut s x h (phase_fits n d) (history_stands d)
