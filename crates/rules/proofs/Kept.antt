-- A step from a state leads to a well-formed state, and a reset begins with one.
--
--   built_burst == the beats of a fixed burst that is built: 2 to the longest
--   kept        == the state after a step is well formed
use Prim.Native.Nat.{ℕ, ◌-◌, ◌≤◌, ◌<◌}
use mathlib.Core.Path.{◌≡◌, refl, sym, ◌∙◌}
use mathlib.Core.Bool.{Bool, true, false, not, ◌&&◌, ◌||◌, cond, true≢false, false≢true}
use native.Mathlib.Omega.{arith}
use borrow.Author.Tests.{leb-true, leb-false, le-leb, eqb-true}
use lib.Dec.{eqb, leb}
use Rattle.rules.specs.declared.Burst.{Burst}
use Rattle.rules.specs.declared.Burst.TheVariants as burst
use Rattle.rules.specs.declared.Phase.{Phase}
use Rattle.rules.specs.declared.Phase.TheVariants.{Fresh, Fixed, Open, Done}
use Rattle.rules.specs.declared.State.{State}
use Rattle.rules.specs.declared.Inputs.{Inputs}
use Rattle.rules.specs.declared.Outputs.{Outputs}
use Rattle.rules.specs.declared.Seen.{Seen}
use Rattle.rules.specs.Codes.{burst_of, longest_burst, ready}
use Rattle.rules.specs.Masks.{some_high, high}
use Rattle.rules.specs.State.{phase_ok, WellFormed}
use Rattle.rules.specs.Phase.{seen, handover, phase_opened, phase_low, phase_after, settled}
use Rattle.rules.specs.Step.{granted_after, owner_after, lock_after, moved}
use Rattle.rules.proofs.Choice.{cond_elim, and_left, and_right}
use Rattle.rules.proofs.Taken.{Taken, decide}
use Rattle.rules.proofs.Decision.{decides_low, decides_settled, chosen_kept, chosen_zero, chosen_below}

-- a fixed burst has two beats or more, and no more than the longest
abbrev pub BeatsOk : Burst → Type 0
BeatsOk burst.Single = Unit {0}
BeatsOk burst.Unspecified = Unit {0}
BeatsOk (burst.Fixed beats) = (2 ≤ beats) × (beats ≤ longest_burst)
BeatsOk burst.NotBuilt = Unit {0}
BeatsOk burst.NoCode = Unit {0}

pub built_burst : (c : ℕ) → BeatsOk (burst_of c)
unfolding burst_of
built_burst c =
    cond_elim BeatsOk (eqb c 0) (λ _. tt) (λ _.
    cond_elim BeatsOk (eqb c 1) (λ _. tt) (λ _.
    cond_elim BeatsOk (eqb c 3) (λ _. (omega arith, omega arith)) (λ _.
    cond_elim BeatsOk (leb c 7) (λ _. tt) (λ _. tt))))

fixed_ok : (k : ℕ) (lock : Bool) → 1 ≤ k → k ≤ longest_burst - 1 → phase_ok (Fixed k) false lock ≡ true
unfolding phase_ok
fixed_ok k lock low top = simp (le-leb 1 k low, le-leb k 3 top)

fixed_facts : (k : ℕ) (granted lock : Bool) → phase_ok (Fixed k) granted lock ≡ true → (1 ≤ k) × (k ≤ longest_burst - 1)
unfolding phase_ok
fixed_facts k granted lock e =
    let p : (leb 1 k && leb k 3) ≡ true = and_left (leb 1 k && leb k 3) (not granted) e in
    (leb-true 1 k (and_left (leb 1 k) (leb k 3) p), leb-true k 3 (and_right (leb 1 k) (leb k 3) p))

opened_ok : (b : Burst) (lock : Bool) → BeatsOk b → phase_ok (phase_opened b lock) false lock ≡ true
unfolding phase_ok
opened_ok burst.Single lock h = refl
opened_ok burst.Unspecified true h = refl
opened_ok burst.Unspecified false h = refl
opened_ok (burst.Fixed beats) lock h = fixed_ok (beats - 1) lock (omega (arith, h.0)) (omega (arith, h.1))
opened_ok burst.NotBuilt lock h = refl
opened_ok burst.NoCode lock h = refl

low_ok : (p : Phase) (lock : Bool) (v : Seen) → BeatsOk v.burst → phase_ok p false lock ≡ true → phase_ok (phase_low p lock v) false lock ≡ true
unfolding phase_ok
low_ok Fresh lock v h e =
    cond_elim (λ (p : Phase). phase_ok p false lock ≡ true) (v.ready && v.nonseq) (λ _. opened_ok v.burst lock h) (λ _. refl)
low_ok (Fixed k) lock v h e =
    let f = fixed_facts k false lock e in
    cond_elim (λ (p : Phase). phase_ok p false lock ≡ true) v.ready
    (λ _.
    cond_elim (λ (p : Phase). phase_ok p false lock ≡ true) (leb k 1) (λ _. refl)
    (λ q. fixed_ok (k - 1) lock (omega (arith, leb-false k 1 q)) (omega (arith, f.1))))
    (λ _. e)
low_ok Open lock v h e =
    cond_elim (λ (p : Phase). phase_ok p false lock ≡ true) v.request (λ _. e) (λ _. refl)
low_ok Done lock v h e = refl

-- a phase that is neither Fixed nor Open fits every GRANTED and HMASTLOCK
settled_ok : (p : Phase) (granted lock : Bool) → settled p ≡ true → phase_ok p granted lock ≡ true
unfolding phase_ok
settled_ok Fresh granted lock e = refl
settled_ok (Fixed k) granted lock e = absurd (false≢true e)
settled_ok Open granted lock e = absurd (false≢true e)
settled_ok Done granted lock e = refl

-- over plain flags: d is DECIDE, gr GRANTED, r HREADY, q GRANTED after a decision, hl HLOCK of g, low the phase after with GRANTED low
phase_kept : (d gr r q hl lock : Bool) (p low : Phase) → (d ≡ true → gr ≡ false) → (d ≡ true → settled (cond gr (cond r Fresh p) low) ≡ true)
    → phase_ok p gr lock ≡ true → (phase_ok p false lock ≡ true → phase_ok low false lock ≡ true)
    → phase_ok (cond gr (cond r Fresh p) low) (cond d q (cond (gr && r) false gr)) (cond (gr && r) hl lock) ≡ true
phase_kept true true r q hl lock p low a b e f = absurd (true≢false (a refl))
phase_kept true false r q hl lock p low a b e f = settled_ok low q lock (b refl)
phase_kept false true true q hl lock p low a b e f = settled_ok Fresh false hl refl
phase_kept false true false q hl lock p low a b e f = e
phase_kept false false r q hl lock p low a b e f = f e

-- g = m where GRANTED is low: some is whether a request is high, z whether m is 0
together_kept : (d gr r some z : Bool) (w g m : ℕ) → (d ≡ true → gr ≡ false) → (d ≡ false → w ≡ g) → (d ≡ true → some ≡ false → w ≡ 0) → (z ≡ true → m ≡ 0)
    → (gr ≡ false → g ≡ m) → cond d (some || not z) (cond (gr && r) false gr) ≡ false → w ≡ cond (gr && r) g m
together_kept true true r some z w g m a b c e f h = absurd (true≢false (a refl))
together_kept true false r true z w g m a b c e f h = absurd (true≢false h)
together_kept true false r false false w g m a b c e f h = absurd (true≢false h)
together_kept true false r false true w g m a b c e f h = c refl refl ∙ sym (e refl)
together_kept false true true some z w g m a b c e f h = b refl
together_kept false true false some z w g m a b c e f h = absurd (true≢false h)
together_kept false false r some z w g m a b c e f h = b refl ∙ f refl

pub kept : (s : State) (x : Inputs) (s' : State) (o : Outputs) → Taken s x s' o → WellFormed s'
unfolding moved granted_after owner_after lock_after phase_after seen
kept s x s' o k =
    let f = k.sound in
    let v = seen s x in
    let d = decide s x in
    let low : d ≡ true → s.granted ≡ false = decides_low s v in
    rw k.moves
    (record {
      few = f.few;
      many = f.many;
      grant = chosen_below s x d k.w f.grant k.chose;
      owner = cond_elim (λ (m : ℕ). m < s.n) (handover s x) (λ _. f.grant) (λ _. f.owner);
      together =
          together_kept d s.granted (ready x) (some_high x.hbusreq) (eqb s.m 0) k.w s.g s.m low
          (λ e. chosen_kept s x k.w (rw e at k.chose))
          (λ e q. chosen_zero s x k.w q (rw e at k.chose))
          (eqb-true s.m 0)
          f.together;
      phase =
          phase_kept d s.granted (ready x) (some_high x.hbusreq || not (eqb s.m 0)) (high x.hlock s.g) s.hmastlock s.phase (phase_low s.phase s.hmastlock v) low
          (decides_settled s v)
          f.phase
          (low_ok s.phase s.hmastlock v (built_burst x.hburst));
      room = omega (arith, k.room);
    })
