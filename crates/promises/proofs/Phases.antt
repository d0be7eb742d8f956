-- The phase is a word about the access that runs: what G2 and G3 watch, and more, is over before GRANTED can rise.
--
--   Stands p a   == the access, at its opening a, stands as the phase p says
--   stands_next  == one cycle keeps that
--   no_g2, no_g3 == no watched burst is cut
--   no_cut       == no fixed burst is cut, locked or not
use Prim.Native.Nat.{ℕ, ◌+◌, ◌-◌, ◌≤◌}
use mathlib.Core.Path.{◌≡◌, refl, sym, ◌∙◌, subst}
use mathlib.Core.Bool.{Bool, true, false, not, ◌&&◌, cond, false≢true, and-false}
use mathlib.Core.List.{List, [], ◌∷◌}
use native.Mathlib.Omega.{arith}
use borrow.Author.Tests.{leb-true, leb-false, le-ltb}
use lib.Dec.{leb, ltb}
use Rattle.rules.specs.declared.Burst.{Burst}
use Rattle.rules.specs.declared.Burst.TheVariants as burst
use Rattle.rules.specs.declared.Phase.{Phase}
use Rattle.rules.specs.declared.Phase.TheVariants.{Fresh, Fixed, Open, Done}
use Rattle.rules.specs.declared.State.{State}
use Rattle.rules.specs.declared.Inputs.{Inputs}
use Rattle.rules.specs.declared.Outputs.{Outputs}
use Rattle.rules.specs.declared.Cycle.{Cycle}
use Rattle.rules.specs.declared.Seen.{Seen}
use Rattle.rules.specs.Codes.{ready, burst_of}
use Rattle.rules.specs.State.{phase_ok}
use Rattle.rules.specs.Phase.{seen, phase_opened, phase_low, phase_after}
use Rattle.rules.proofs.Choice.{either, and_left, and_right}
use Rattle.rules.proofs.Taken.{Taken, next_phase}
use Rattle.rulebook.specs.Columns.{is_ready, is_incr, is_fixed, beats, granted, mastlocked, owners_request, handover as handover_at}
use Rattle.rulebook.specs.Traces.{access, opens, Opened, not_yet, opened_at, further, opening, all, readies}
use Rattle.rulebook.specs.Rules.{is_watched, cuts_incr, cuts_fixed, g2, g3}
use Rattle.promises.specs.Promises.{cuts_burst, cut}
use Rattle.promises.proofs.History.{cycle_of, shown_granted, shown_locked, shown_request, shown_handover}

-- Fresh: not opened. Fixed k: a fixed burst that is over after k more ready cycles. Open: no fixed burst. Done: a fixed burst is over,
-- and in a watched INCR the owner's request was low in some later cycle.
abbrev pub Stands : Phase → Opened → Type 0
Stands Fresh not_yet = Unit {0}
Stands Fresh (opened_at o later) = ⊥
Stands (Fixed k) not_yet = ⊥
Stands (Fixed k) (opened_at o later) = (is_incr o ≡ false) × (beats o - 1 ≤ readies later + k)
Stands Open not_yet = ⊥
Stands Open (opened_at o later) = beats o ≡ 0
Stands Done not_yet = ⊥
Stands Done (opened_at o later) = ((is_watched o && is_incr o) ≡ true → all owners_request later ≡ false) × (beats o - 1 ≤ readies later)

not_opening : (c : Cycle) → opens c ≡ false → further c not_yet ≡ not_yet
not_opening c e = rw e

opening_now : (c : Cycle) → opens c ≡ true → further c not_yet ≡ opened_at c []
opening_now c e = rw e

more_readies : (c : Cycle) (later : List Cycle) → readies later ≤ readies (c ∷ later)
unfolding readies
more_readies c later = omega arith

-- a later cycle of an access whose fixed burst is over and whose INCR was released
stands_done : (c o : Cycle) (later : List Cycle) → Stands Done (opened_at o later) → Stands Done (opened_at o (c ∷ later))
unfolding all
stands_done c o later h = (λ w. rw (h.0 w) (and-false (owners_request c)), omega (arith, h.1, more_readies c later))

-- a cycle in which the phase stays, since HREADY is low
stands_waiting : (p : Phase) (c : Cycle) (a : Opened) → is_ready c ≡ false → Stands p a → Stands p (further c a)
unfolding opens readies
stands_waiting Fresh c not_yet r h = rw (not_opening c (rw r)) tt
stands_waiting Fresh c (opened_at o later) r h = h
stands_waiting (Fixed k) c not_yet r h = absurd h
stands_waiting (Fixed k) c (opened_at o later) r h = (h.0, rw r (omega (arith, h.1)))
stands_waiting Open c not_yet r h = absurd h
stands_waiting Open c (opened_at o later) r h = h
stands_waiting Done c not_yet r h = absurd h
stands_waiting Done c (opened_at o later) r h = stands_done c o later h

-- the phase that an opening starts: of the burst b, with HMASTLOCK lock
stands_opened : (b : Burst) (lock : Bool) (c : Cycle) → burst_of c.inputs.hburst ≡ b → is_watched c ≡ lock → Stands (phase_opened b lock) (opened_at c [])
unfolding readies
stands_opened burst.Single lock c e w = (λ q. absurd (false≢true (sym (rw e (and-false (is_watched c))) ∙ q)), rw e (omega arith))
stands_opened burst.Unspecified true c e w = rw e
stands_opened burst.Unspecified false c e w = (λ q. absurd (differ_of q), rw e (omega arith))
  where
    differ_of : (is_watched c && is_incr c) ≡ true → ⊥
    differ_of q = false≢true (sym w ∙ and_left (is_watched c) (is_incr c) q)
stands_opened (burst.Fixed b) lock c e w = (rw e, rw e (omega arith))
stands_opened burst.NotBuilt lock c e w = (λ q. absurd (false≢true (sym (rw e (and-false (is_watched c))) ∙ q)), rw e (omega arith))
stands_opened burst.NoCode lock c e w = (λ q. absurd (false≢true (sym (rw e (and-false (is_watched c))) ∙ q)), rw e (omega arith))

-- one cycle with GRANTED low: what the arbiter saw of the cycle c is v
pub record Saw (c : Cycle) (lock : Bool) (v : Seen) : Type 0 where
  pub ready : is_ready c ≡ v.ready
  pub opens : opens c ≡ (v.ready && v.nonseq)
  pub burst : burst_of c.inputs.hburst ≡ v.burst
  pub request : owners_request c ≡ v.request
  pub is_watched : is_watched c ≡ lock

stands_low : (p : Phase) (lock : Bool) (c : Cycle) (v : Seen) (a : Opened) → Saw c lock v → Stands p a → Stands (phase_low p lock v) (further c a)
unfolding readies all
stands_low Fresh lock c v not_yet s h = go (v.ready && v.nonseq) refl
  where
    go : (b : Bool) → (v.ready && v.nonseq) ≡ b → Stands (cond (v.ready && v.nonseq) (phase_opened v.burst lock) Fresh) (further c not_yet)
    go true e = rw (e, opening_now c (s.opens ∙ e)) (stands_opened v.burst lock c s.burst s.is_watched)
    go false e = rw (e, not_opening c (s.opens ∙ e)) tt
stands_low Fresh lock c v (opened_at o later) s h = absurd h
stands_low (Fixed k) lock c v not_yet s h = absurd h
stands_low (Fixed k) lock c v (opened_at o later) s h = go v.ready (leb k 1) refl refl
  where
    go : (r l : Bool) → v.ready ≡ r → leb k 1 ≡ l → Stands (cond v.ready (cond (leb k 1) Done (Fixed (k - 1))) (Fixed k)) (opened_at o (c ∷ later))
    go true true e f =
        rw (e, f) (
          λ w. absurd (false≢true (sym h.0 ∙ and_right (is_watched o) (is_incr o) w)),
          rw (s.ready ∙ e) (omega (arith, h.1, leb-true k 1 f)),
        )
    go true false e f = rw (e, f) (h.0, rw (s.ready ∙ e) (omega (arith, h.1, leb-false k 1 f)))
    go false l e f = rw e (h.0, rw (s.ready ∙ e) (omega (arith, h.1)))
stands_low Open lock c v not_yet s h = absurd h
stands_low Open lock c v (opened_at o later) s h = go v.request refl
  where
    go : (q : Bool) → v.request ≡ q → Stands (cond v.request Open Done) (opened_at o (c ∷ later))
    go true e = rw e h
    go false e = rw e (λ w. rw (s.request ∙ e), rw h (omega arith))
stands_low Done lock c v not_yet s h = absurd h
stands_low Done lock c v (opened_at o later) s h = stands_done c o later h

-- what the arbiter saw of the cycle that it shows, with GRANTED low
saw : (s : State) (x : Inputs) → s.granted ≡ false → Saw (cycle_of s x) s.hmastlock (seen s x)
unfolding seen opens is_watched
saw s x g =
    record {
      ready = refl;
      opens = refl;
      burst = refl;
      request = shown_request s x;
      is_watched = rw (shown_granted s x, shown_locked s x, g);
    }

no_handover : (c : Cycle) (h : List Cycle) → handover_at c ≡ false → opening (access (c ∷ h)) ≡ further c (opening (access h))
unfolding access opening
no_handover c h e = rw e

a_handover : (c : Cycle) (h : List Cycle) → handover_at c ≡ true → opening (access (c ∷ h)) ≡ not_yet
unfolding access opening
a_handover c h e = rw e

pub stands_next : (s : State) (x : Inputs) (s' : State) (o : Outputs) → Taken s x s' o → (h : List Cycle) → Stands s.phase (opening (access h))
    → Stands s'.phase (opening (access (cycle_of s x ∷ h)))
unfolding phase_after seen
stands_next s x s' o k h a = go s.granted (ready x) refl refl
  where
    go : (g r : Bool) → s.granted ≡ g → ready x ≡ r → Stands s'.phase (opening (access (cycle_of s x ∷ h)))
    go true true p q =
        let e : s'.phase ≡ Fresh = next_phase s x s' o k ∙ simp (p, q) in
        rw (e, a_handover (cycle_of s x) h (shown_handover s x ∙ simp (p, q))) tt
    go true false p q =
        let e : s'.phase ≡ s.phase = next_phase s x s' o k ∙ simp (p, q) in
        rw (e, no_handover (cycle_of s x) h (shown_handover s x ∙ simp (p, q)))
        (stands_waiting s.phase (cycle_of s x) (opening (access h)) q a)
    go false r p q =
        let e : s'.phase ≡ phase_low s.phase s.hmastlock (seen s x) = next_phase s x s' o k ∙ simp p in
        rw (e, no_handover (cycle_of s x) h (shown_handover s x ∙ simp p))
        (stands_low s.phase s.hmastlock (cycle_of s x) (seen s x) (opening (access h)) (saw s x p) a)

no_fixed : (k : ℕ) (lock : Bool) → phase_ok (Fixed k) true lock ≡ true → ⊥
unfolding phase_ok
no_fixed k lock e = false≢true (and_right (leb 1 k && leb k 3) false e)

-- a handover finds Fresh or Done
module _ (t : Cycle) (lock : Bool) where
  whole_incr : (p : Phase) (a : Opened) → phase_ok p true lock ≡ true → Stands p a → cuts_incr t a ≡ false
  unfolding phase_ok all
  whole_incr p not_yet w h = refl
  whole_incr Fresh (opened_at o later) w h = absurd h
  whole_incr (Fixed k) (opened_at o later) w h = absurd (no_fixed k lock w)
  whole_incr Open (opened_at o later) w h = absurd (false≢true w)
  whole_incr Done (opened_at o later) w h =
      either (is_watched o && is_incr o)
      (λ e. rw (e, h.0 e) (and-false (owners_request t)))
      (λ e. rw e)

  -- the burst is over, so with the handover there are as many later ready cycles as it has beats to come
  whole_burst : (p : Phase) (a : Opened) → phase_ok p true lock ≡ true → Stands p a → cuts_burst t a ≡ false
  unfolding phase_ok
  whole_burst p not_yet w h = refl
  whole_burst Fresh (opened_at o later) w h = absurd h
  whole_burst (Fixed k) (opened_at o later) w h = absurd (no_fixed k lock w)
  whole_burst Open (opened_at o later) w h = absurd (false≢true w)
  whole_burst Done (opened_at o later) w h =
      rw (le-ltb (readies (t ∷ later)) (beats o - 1) (omega (arith, h.1, more_readies t later))) (and-false (not (granted o) && is_fixed o))

-- G3 watches fewer bursts than there are
watches_fewer : (t : Cycle) (a : Opened) → cuts_burst t a ≡ false → cuts_fixed t a ≡ false
unfolding is_watched
watches_fewer t not_yet e = refl
watches_fewer t (opened_at o later) e = go (not (granted o)) (mastlocked o) (is_fixed o) (ltb (readies (t ∷ later)) (beats o - 1)) e
  where
    go : (g l f b : Bool) → (g && f && b) ≡ false → (g && l && f && b) ≡ false
    go true true f b e = e
    go true false f b e = refl
    go false l f b e = refl

module _ (s : State) (x : Inputs) (h : List Cycle) (ok : phase_ok s.phase s.granted s.hmastlock ≡ true) (a : Stands s.phase (opening (access h))) where
  -- where GRANTED is low there is no handover
  at_handover : (f : Cycle → Opened → Bool) → (phase_ok s.phase true s.hmastlock ≡ true → f (cycle_of s x) (opening (access h)) ≡ false)
      → (handover_at (cycle_of s x) && f (cycle_of s x) (opening (access h))) ≡ false
  at_handover f whole =
      either s.granted
      (λ g.
      rw (whole (subst (λ (b : Bool). phase_ok s.phase b s.hmastlock ≡ true) g ok))
      (and-false (handover_at (cycle_of s x))))
      (λ g. rw (low g))
    where
      low : s.granted ≡ false → handover_at (cycle_of s x) ≡ false
      low g = shown_handover s x ∙ simp g

  pub no_g2 : g2 (cycle_of s x ∷ h) ≡ false
  unfolding g2
  no_g2 = at_handover cuts_incr (λ w. whole_incr (cycle_of s x) s.hmastlock s.phase (opening (access h)) w a)

  pub no_cut : cut (cycle_of s x ∷ h) ≡ false
  unfolding cut
  no_cut = at_handover cuts_burst (λ w. whole_burst (cycle_of s x) s.hmastlock s.phase (opening (access h)) w a)

  pub no_g3 : g3 (cycle_of s x ∷ h) ≡ false
  unfolding g3
  no_g3 =
      at_handover cuts_fixed
      (λ w. watches_fewer (cycle_of s x) (opening (access h)) (whole_burst (cycle_of s x) s.hmastlock s.phase (opening (access h)) w a))
