-- While nobody locks and somebody requests, no access has more ready cycles than the longest burst has beats, and the handover.
--
--   longest        == that number: 5
--   room g p       == the ready cycles that the access can still have, with GRANTED g and in the phase p
--   short_accesses == so no access of a lock_free run has more than the longest
use Prim.Native.Nat.{ℕ, ◌+◌, ◌-◌, ◌≤◌}
use mathlib.Core.Path.{◌≡◌, refl, sym, ◌∙◌, subst, subst₂}
use mathlib.Core.Bool.{Bool, true, false, not, ◌&&◌, cond, true≢false, false≢true, and-true}
use mathlib.Core.List.{List}
use native.Mathlib.Omega.{arith}
use borrow.Author.Tests.{leb-true, leb-false}
use lib.Dec.{leb}
use Rattle.rules.specs.declared.Burst.{Burst}
use Rattle.rules.specs.declared.Burst.TheVariants as burst
use Rattle.rules.specs.declared.Phase.{Phase}
use Rattle.rules.specs.declared.Phase.TheVariants.{Fresh, Fixed, Open, Done}
use Rattle.rules.specs.declared.State.{State}
use Rattle.rules.specs.declared.Inputs.{Inputs}
use Rattle.rules.specs.declared.Outputs.{Outputs}
use Rattle.rules.specs.declared.Seen.{Seen}
use Rattle.rules.specs.Codes.{longest_burst, ready}
use Rattle.rules.specs.Masks.{high}
use Rattle.rules.specs.State.{phase_ok}
use Rattle.rules.specs.Phase.{seen, protected, phase_low, phase_after, settled, is_fresh, opens_later, decides}
use Rattle.rules.specs.Step.{lock_after}
use Rattle.rules.proofs.Choice.{either, and_left, and_right}
use Rattle.rules.proofs.Masks.{high_some}
use Rattle.rules.proofs.Taken.{Taken, taken, decide, next_lock, next_phase}
use Rattle.rules.proofs.Kept.{BeatsOk, built_burst}
use Rattle.rules.proofs.Decision.{decides_low}
use Rattle.promises.specs.Machines.{arbiter}
use Rattle.promises.specs.Runs.{Run, stop, more, Requests, Unlocked, AtMost}
use Rattle.promises.proofs.Served.{stays_low, falls_when_ready, granted_raised, granted_falls}

abbrev pub longest : ℕ
longest = longest_burst + 1

abbrev pub room : Bool → Phase → ℕ
room true p = 1
room false Fresh = longest
room false (Fixed k) = k + 1
room false Open = 2
room false Done = 2

pub room_some : (g : Bool) (p : Phase) → 1 ≤ room g p
room_some true p = omega arith
room_some false Fresh = omega arith
room_some false (Fixed k) = omega arith
room_some false Open = omega arith
room_some false Done = omega arith

pub room_most : (g : Bool) (p : Phase) (lock : Bool) → phase_ok p g lock ≡ true → room g p ≤ longest
unfolding phase_ok
room_most true p lock e = omega arith
room_most false Fresh lock e = omega arith
room_most false (Fixed k) lock e =
    let f : (leb 1 k && leb k 3) ≡ true = and_left (leb 1 k && leb k 3) true e in
    omega (arith, leb-true k 3 (and_right (leb 1 k) (leb k 3) f))
room_most false Open lock e = omega arith
room_most false Done lock e = omega arith

-- with GRANTED low and no lock, DECIDE asks only for the phases
abbrev decides_free : Phase → Seen → Bool
decides_free p v =
    settled (phase_low p false v) && not (is_fresh p && protected v.burst false && v.nonseq && not v.ready)

-- a decision leaves the handover alone; one that is ready takes a cycle more
decided_room : (r : Bool) (k : ℕ) → 2 ≤ k → 1 + cond r 1 0 ≤ k
decided_room true k h = h
decided_room false k h = omega arith

-- one cycle with GRANTED low: d is DECIDE
room_low : (p : Phase) (r ns q l : Bool) (b : Burst) (d : Bool) → BeatsOk b → phase_ok p false false ≡ true
    → decides_free p (record { ready = r; nonseq = ns; burst = b; request = q; lock = l }) ≡ d
    → room d (phase_low p false (record { ready = r; nonseq = ns; burst = b; request = q; lock = l })) + cond r 1 0 ≤ room false p
unfolding phase_ok
room_low Fresh r ns q l b true ok e h = decided_room r longest (omega arith)
room_low Fresh true true q l burst.Single false ok e h = absurd (true≢false h)
room_low Fresh true true q l burst.Unspecified false ok e h = absurd (true≢false h)
room_low Fresh true true q l (burst.Fixed beats) false ok e h = omega (arith, ok.0, ok.1)
room_low Fresh true true q l burst.NotBuilt false ok e h = absurd (true≢false h)
room_low Fresh true true q l burst.NoCode false ok e h = absurd (true≢false h)
room_low Fresh true false q l b false ok e h = absurd (true≢false (sym (idle (protected b false)) ∙ h))
  where
    idle : (k : Bool) → not (k && false && false) ≡ true
    idle true = refl
    idle false = refl
room_low Fresh false ns q l b false ok e h = omega arith
room_low (Fixed k) false ns q l b true ok e h = absurd (false≢true h)
room_low (Fixed k) false ns q l b false ok e h = omega arith
room_low (Fixed k) true ns q l b d ok e h = go (leb k 1) refl d h
  where
    some : 1 ≤ k
    some = leb-true 1 k (and_left (leb 1 k) (leb k 3) (and_left (leb 1 k && leb k 3) true e))

    go : (t : Bool) → leb k 1 ≡ t → (d : Bool) → (settled (cond (leb k 1) Done (Fixed (k - 1))) && true) ≡ d → room d (cond (leb k 1) Done (Fixed (k - 1))) + 1 ≤ k + 1
    go true p true u = omega (arith, some)
    go true p false u = absurd (true≢false (simp p at u))
    go false p true u = absurd (false≢true (simp p at u))
    go false p false u = rw p (omega (arith, leb-false k 1 p))
room_low Open r ns q l b d ok e h = absurd (false≢true e)
room_low Done r ns q l b true ok e h = decided_room r 2 (omega arith)
room_low Done r ns q l b false ok e h = absurd (true≢false h)

-- the definitions with GRANTED and HMASTLOCK low
after_free : (s : State) (v : Seen) → s.granted ≡ false → s.hmastlock ≡ false → phase_after s v ≡ phase_low s.phase false v
unfolding phase_after
after_free s v g l = simp (g, l)

decides_free_lem : (s : State) (v : Seen) → s.granted ≡ false → s.hmastlock ≡ false → decides_free s.phase v ≡ decides s v
unfolding decides opens_later
decides_free_lem s v g l = simp (after_free s v g l, g, l, and-true)

after_granted : (s : State) (v : Seen) → s.granted ≡ true → phase_after s v ≡ cond v.ready Fresh s.phase
unfolding phase_after
after_granted s v g = simp g

module _ (s : State) (x : Inputs) (s' : State) (o : Outputs) (k : Taken s x s' o) where
  -- a cycle with GRANTED low in which somebody requests
  pub room_falls : (i : ℕ) → s.granted ≡ false → s.hmastlock ≡ false → high x.hbusreq i ≡ true
      → room s'.granted s'.phase + cond (ready x) 1 0 ≤ room false s.phase
  unfolding seen
  room_falls i g l asks =
      let v = seen s x in
      let ok : phase_ok s.phase false false ≡ true = subst₂ (λ (a b : Bool). phase_ok s.phase a b ≡ true) g l k.sound.phase in
      let gr : s'.granted ≡ decide s x =
      either (decide s x)
      (λ d. granted_raised s x s' o k d (high_some x.hbusreq i asks) ∙ sym d)
      (λ d. granted_falls s x s' o k d ∙ stays_low s.granted (ready x) g ∙ sym d) in
      let ph : s'.phase ≡ phase_low s.phase false v = next_phase s x s' o k ∙ after_free s v g l in
      subst₂ (λ (a : Bool) (p : Phase). room a p + cond (ready x) 1 0 ≤ room false s.phase) (sym gr) (sym ph)
      (room_low s.phase v.ready v.nonseq v.request v.lock v.burst (decide s x) (built_burst x.hburst) ok (decides_free_lem s v g l))

  -- a cycle with GRANTED high: the handover, or a wait for it
  pub room_handed : s.granted ≡ true → room s'.granted s'.phase ≤ cond (ready x) longest 1
  unfolding seen
  room_handed g =
      let d : decide s x ≡ false = either (decide s x) (λ d. absurd (true≢false (sym g ∙ decides_low s (seen s x) d))) (λ d. d) in
      let gr = granted_falls s x s' o k d ∙ falls_when_ready s.granted (ready x) g in
      let ph = next_phase s x s' o k ∙ after_granted s (seen s x) g in
      go (ready x) gr ph
    where
      go : (r : Bool) → s'.granted ≡ cond r false true → s'.phase ≡ cond r Fresh s.phase → room s'.granted s'.phase ≤ cond r longest 1
      go true a b = rw (a, b) (omega arith)
      go false a b = rw a (omega arith)

  -- HMASTLOCK stays low
  pub lock_free : s.hmastlock ≡ false → ((i : ℕ) → high x.hlock i ≡ false) → s'.hmastlock ≡ false
  unfolding lock_after
  lock_free l none = next_lock s x s' o k ∙ rw (none s.g, l) (go (s.granted && ready x))
    where
      go : (h : Bool) → cond h false false ≡ false
      go true = refl
      go false = refl

pub short_accesses : (i : ℕ) {s t : State} {xs : List Inputs} (r : Run arbiter s xs t) (used : ℕ) → s.hmastlock ≡ false → Unlocked r → Requests i r
    → used + room s.granted s.phase ≤ longest → AtMost longest used r
unfolding Unlocked Requests AtMost
short_accesses i stop used l f a h = tt
short_accesses i (more {s = s} {s' = s'} {o = o} {x = x} e r) used l f a h =
    go s.granted (ready x) refl refl (λ u b. short_accesses i r u (lock_free s x s' o k l f.0) f.1 a.1 b)
  where
    k : Taken s x s' o
    k = taken s x s' o e

    go : (g b : Bool) → s.granted ≡ g → ready x ≡ b → ((u : ℕ) → u + room s'.granted s'.phase ≤ longest → AtMost longest u r)
        → cond b ((used + 1 ≤ longest) × AtMost longest (cond g 0 (used + 1)) r) (AtMost longest used r)
    go true true p q later =
        let here : used + 1 ≤ longest = subst (λ (v : Bool). used + room v s.phase ≤ longest) p h in
        let next = subst (λ (v : Bool). room s'.granted s'.phase ≤ cond v longest 1) q (room_handed s x s' o k p) in
        (here, later 0 (omega arith))
    go true false p q later =
        let here : used + 1 ≤ longest = subst (λ (v : Bool). used + room v s.phase ≤ longest) p h in
        let next = subst (λ (v : Bool). room s'.granted s'.phase ≤ cond v longest 1) q (room_handed s x s' o k p) in
        later used (omega arith)
    go false b p q later =
        let here = subst (λ (v : Bool). used + room v s.phase ≤ longest) p h in
        let next = subst (λ (v : Bool). room s'.granted s'.phase + cond v 1 0 ≤ room false s.phase) q (room_falls s x s' o k i p l a.0) in
        low b next here
      where
        low : (b : Bool) → room s'.granted s'.phase + cond b 1 0 ≤ room false s.phase → used + room false s.phase ≤ longest
            → cond b ((used + 1 ≤ longest) × AtMost longest (used + 1) r) (AtMost longest used r)
        low true n m = (omega (arith, room_some s'.granted s'.phase), later (used + 1) (omega arith))
        low false n m = later used (omega arith)
