-- The numbers of phases: what each rule of a phase makes of them.
--
--   number       == a number from 0 to 5 is that of its phase
--   number_of    == a phase that fits a state has a number
--   begun_number == so has a phase that is not Fresh
--   picked       == a choice between two phases is the choice between their numbers
--   four_beats, some_beats == a fixed burst has four beats
--   opens_incr, opens_fixed, opens_none == the phase that a first beat opens
--   stays_done, counted, stays_open == the phase after a later cycle with GRANTED low: of Done, of Fixed, of Open
use Prim.Native.Nat.{ℕ, zero, suc, ◌*◌, ◌-◌, ◌≤◌}
use mathlib.Core.Path.{◌≡◌, refl, sym, ◌∙◌}
use mathlib.Core.Logic.{◌⊎◌, inl, inr}
use mathlib.Core.Bool.{Bool, true, false, cond}
use native.Mathlib.Omega.{arith}
use borrow.Author.Tests.{leb-true, le-leb, ne_eqb}
use lib.Dec.{eqb, leb}
use Rattle.rules.specs.declared.Burst.{Burst}
use Rattle.rules.specs.declared.Burst.TheVariants as burst
use Rattle.rules.specs.declared.Phase.{Phase}
use Rattle.rules.specs.declared.Phase.TheVariants.{Fresh, Fixed, Open, Done}
use Rattle.rules.specs.declared.Inputs.{Inputs}
use Rattle.rules.specs.Codes.{burst_of}
use Rattle.rules.specs.Masks.{high as bit_of}
use Rattle.rules.specs.State.{phase_ok}
use Rattle.rules.specs.Phase.{seen, phase_opened}
use Rattle.rules.proofs.Choice.{and_left, and_right}
use Rattle.signals.specs.Flags.{Stands}
use Rattle.signals.proofs.Flags.{binary, high, small}
use Rattle.signals.proofs.Codes.{by_code}
use Rattle.buses.specs.declared.Bus.{Bus}
use Rattle.buses.specs.Buses.{phase_from, phase_number, Numbers, Begun, low_after}

pub number : (k : ℕ) → k ≤ 5 → Numbers (phase_from k) k
number k h = record { is = refl; small = h }

fixed_from : (k : ℕ) → 1 ≤ k → k ≤ 3 → phase_from k ≡ Fixed k
unfolding phase_from
fixed_from k low top = simp (ne_eqb k 0 (λ e. omega arith), le-leb k 3 top)

fixed_number : (k : ℕ) → leb 1 k ≡ true → leb k 3 ≡ true → Numbers (Fixed k) k
fixed_number k p q =
    let low = leb-true 1 k p in
    let top = leb-true k 3 q in
    record { is = fixed_from k low top; small = omega arith }

pub number_of : (p : Phase) (granted lock : Bool) → phase_ok p granted lock ≡ true → Numbers p (phase_number p)
unfolding phase_from phase_ok
number_of Fresh granted lock e = number 5 (omega arith)
number_of (Fixed k) granted lock e = fixed_number k (search (and_left, and_right)) (search (and_left, and_right))
number_of Open granted lock e = number 4 (omega arith)
number_of Done granted lock e = number 0 (omega arith)

pub begun_number : {p : Phase} {k : ℕ} → Begun p k → Numbers p k
begun_number {p} {k} e = let h = e.small in record { is = e.is; small = omega arith }

pub picked : {p q : Phase} {i j : ℕ} (b : Bool) → Numbers p i → Numbers q j → Numbers (cond b p q) (cond b i j)
picked true f g = f
picked false f g = g

begun : (k : ℕ) → k ≤ 4 → Begun (phase_from k) k
begun k h = record { is = refl; small = h }

-- a number that stands for a flag, four times: Open where the flag is high, and Done where it is low
open_by : (x : ℕ) → x ≤ 1 → Begun (cond (eqb x 1) Open Done) (4 * x)
unfolding phase_from
open_by = binary (λ x. Begun (cond (eqb x 1) Open Done) (4 * x)) (begun 0 (omega arith)) (begun 4 (omega arith))

-- the only fixed burst has four beats
pub four_beats : (h beats : ℕ) (b : Burst) → b ≡ burst_of h → b ≡ burst.Fixed beats → beats ≡ 4
four_beats h beats b e f =
    by_code (λ i k b. (beats : ℕ) → b ≡ burst.Fixed beats → beats ≡ 4)
    (λ k q. nothing (cc)) (λ k q. nothing (cc)) (λ k q. cc) (λ k q. nothing (cc)) (λ k q. nothing (cc)) h beats (sym e ∙ f)
  where
    nothing : {k : ℕ} → ◌≡◌ {A = ℕ} 0 1 → k ≡ 4
    nothing e = absurd (omega arith)

pub some_beats : (h beats : ℕ) (b : Burst) → b ≡ burst_of h → b ≡ burst.Fixed beats → 1 ≤ beats
some_beats h beats b e f = omega (arith, four_beats h beats b e f)

-- the phase that a first beat opens, by the sort of its burst
module _ (h lock : ℕ) (b : Burst) (e : b ≡ burst_of h) where
  pub opens_incr : lock ≤ 1 → b ≡ burst.Unspecified → Begun (phase_opened (burst_of h) (eqb lock 1)) (4 * lock)
  opens_incr few f = rw (← e, f) (open_by lock few)

  pub opens_fixed : (beats : ℕ) → b ≡ burst.Fixed beats → Begun (phase_opened (burst_of h) (eqb lock 1)) (beats - 1)
  unfolding phase_from
  opens_fixed beats f = rw (← e, f, four_beats h beats b e f) (begun 3 (omega arith))

  -- no other burst holds the bus after its first beat
  pub opens_none : (b ≡ burst.Single) ⊎ ((b ≡ burst.NotBuilt) ⊎ (b ≡ burst.NoCode)) → Begun (phase_opened (burst_of h) (eqb lock 1)) 0
  unfolding phase_from
  opens_none (inl f) = rw (← e, f) (begun 0 (omega arith))
  opens_none (inr (inl f)) = rw (← e, f) (begun 0 (omega arith))
  opens_none (inr (inr f)) = rw (← e, f) (begun 0 (omega arith))

-- a ready cycle less
counted_by : (k : ℕ) → 1 ≤ k → k ≤ 3 → (h : ℕ) → h ≤ 1 → Begun (cond (eqb h 1) (cond (leb k 1) Done (Fixed (k - 1))) (Fixed k)) (k - h)
unfolding phase_from
counted_by zero low top h few = absurd (omega arith)
counted_by (suc zero) low top h few =
    binary (λ h. Begun (cond (eqb h 1) Done (Fixed 1)) (1 - h)) (begun 1 (omega arith)) (begun 0 (omega arith)) h few
counted_by (suc (suc zero)) low top h few =
    binary (λ h. Begun (cond (eqb h 1) (Fixed 1) (Fixed 2)) (2 - h)) (begun 2 (omega arith)) (begun 1 (omega arith)) h few
counted_by (suc (suc (suc zero))) low top h few =
    binary (λ h. Begun (cond (eqb h 1) (Fixed 2) (Fixed 3)) (3 - h)) (begun 3 (omega arith)) (begun 2 (omega arith)) h few
counted_by (suc (suc (suc (suc k)))) low top h few = absurd (omega arith)

module _ (n : ℕ) (b : Bus) (x : Inputs) where
  pub stays_done : b.phase ≡ 0 → Begun (low_after n b x) 0
  unfolding phase_from
  stays_done e = rw e (begun 0 (omega arith))

  pub counted : 1 ≤ b.phase → b.phase ≤ 3 → x.hready ≤ 1 → Begun (low_after n b x) (b.phase - x.hready)
  unfolding seen
  counted low top few = rw (fixed_from b.phase low top) (counted_by b.phase low top x.hready few)

  pub stays_open : (request : ℕ) → b.phase ≡ 4 → Stands request (bit_of x.hbusreq b.m) → Begun (low_after n b x) (4 * request)
  unfolding phase_from seen
  stays_open request e s = rw (e, ← high s) (open_by request (small s))
