-- A decision with GRANTED low, from the numbers.
--
--   some_winner == where some bit is high, the walk ends at a master
--   decided     == DECIDE is high exactly where neither the lock nor the burst holds the bus
--   chooses_zero, chooses_winner, chooses_none == the three ends of the choice
use Rattle.std.specs.Prelude.{None, Some}
use Prim.Native.Nat.{ℕ, zero, suc, ◌^◌, ◌≤◌, ◌<◌}
use mathlib.Core.Path.{◌≡◌, refl, sym, ◌∙◌, ap}
use mathlib.Core.Bool.{Bool, true, false, not, ◌&&◌, cond, true≢false}
use native.Mathlib.Omega.{arith}
use borrow.Author.Tests.{eq-eqb, ne_eqb, eqb-false}
use lib.Dec.{eqb}
use lib.Bits.{bit_and, bit_or}
use Rattle.rules.specs.Results.{Found}
use Rattle.rules.specs.declared.Phase.{Phase}
use Rattle.rules.specs.declared.Phase.TheVariants.{Fresh}
use Rattle.rules.specs.declared.Inputs.{Inputs}
use Rattle.rules.specs.Codes.{ready}
use Rattle.rules.specs.Masks.{high as bit_of}
use Rattle.rules.specs.Winner.{winner}
use Rattle.rules.specs.Phase.{seen, phase_after, settled, opens_later, decides}
use Rattle.rules.specs.Step.{flag_of, chosen, granted_after}
use Rattle.rules.proofs.Flags.{or_none_lem}
use Rattle.rules.proofs.Masks.{some_is_high}
use Rattle.rules.proofs.Winner.{winner_won}
use Rattle.signals.specs.Flags.{Stands}
use Rattle.signals.proofs.Flags.{as_flag, both, high, small, low_number}
use Rattle.buses.specs.declared.Bus.{Bus}
use Rattle.buses.specs.Buses.{phase_from, state_from, low_after, decide_of, Runs, Chooses}

pub some_winner : (n g m : ℕ) (f : Found) → m < 2 ^ n → eqb m 0 ≡ false → f ≡ winner n g m → f ≡ None → ⊥
some_winner n g m f below some walk none =
    let r = some_is_high n m below (eqb-false m 0 some) in
    let v = winner_won n g m r.at r.there r.is_high in
    let z : ◌≡◌ {A = ℕ} 0 1 = cc v.found in
    omega arith

-- `|` is 0 exactly where both its parts are
or_zero : (i j : ℕ) → (eqb i 0 && eqb j 0) ≡ eqb (bit_or i j) 0
or_zero zero j = refl
or_zero (suc i) j =
    rw (ne_eqb (suc i) 0 (λ e. omega arith)) (sym (ne_eqb (bit_or (suc i) j) 0 (λ e. omega (arith, (or_none_lem (suc i) j e).0))))

-- s says whether the phase after is neither Fixed nor Open, l whether the lock holds the bus, and o whether a burst opens later
free_by : (s l o f : Bool) → (s && not o) ≡ f → (s && not l && not o) ≡ (not l && f)
free_by true true o f e = refl
free_by true false o f e = e
free_by false true o f e = refl
free_by false false o f e = e

-- with GRANTED low the phase after is q
low_by : (granted l o f : Bool) (p q : Phase) → granted ≡ false → (settled q && not o) ≡ f
    → (not granted && settled (cond granted p q) && not l && not o) ≡ (not l && f)
low_by true l o f p q e h = absurd (true≢false e)
low_by false l o f p q e h = free_by (settled q) l o f h

module _ (n : ℕ) (b : Bus) (x : Inputs) where
  -- lock is the owner's lock line
  pub decided : (lock busy k : ℕ) → b.granted ≡ 0 → b.hmastlock ≤ 1 → Stands lock (bit_of x.hlock b.m) → Runs n b x busy k
      → decide_of n b x ≡ eqb (bit_or (bit_and b.hmastlock lock) busy) 0
  unfolding decides phase_after seen
  decided lock busy k e few s runs =
      let held = both (as_flag b.hmastlock few) s in
      low_by (eqb b.granted 1) (eqb b.hmastlock 1 && bit_of x.hlock b.m) (opens_later (state_from n b) (seen (state_from n b) x)) (eqb busy 0) (cond (ready x) Fresh (phase_from b.phase)) (low_after n b x) (ap (λ (k : ℕ). eqb k 1) e) runs.free
      ∙ ap (λ (l : Bool). not l && eqb busy 0) (sym (high held))
      ∙ ap (λ (l : Bool). l && eqb busy 0) (sym (low_number _ (small held)))
      ∙ or_zero (bit_and b.hmastlock lock) busy

  module _ (held : ℕ) where
    pub chooses_zero : (granted : ℕ) → held ≡ 0 → x.hbusreq ≡ 0 → granted ≡ flag_of (not (eqb b.m 0)) → Chooses n b x (eqb held 0) 0 granted 1
    unfolding chosen granted_after
    chooses_zero granted e z f =
        rw (eq-eqb held 0 e)
        (record {
          grant = rw (eq-eqb x.hbusreq 0 z);
          grants = record { is = rw (eq-eqb x.hbusreq 0 z) f };
          decides = record { is = refl };
        })

    pub chooses_winner : (w : ℕ) → held ≡ 0 → (x.hbusreq ≡ 0 → ⊥) → winner n b.g x.hbusreq ≡ Some w → Chooses n b x (eqb held 0) w 1 1
    unfolding chosen granted_after
    chooses_winner w e some f =
        rw (eq-eqb held 0 e)
        (record {
          grant = rw (ne_eqb x.hbusreq 0 some) f;
          grants = record { is = rw (ne_eqb x.hbusreq 0 some) };
          decides = record { is = refl };
        })

    pub chooses_none : (held ≡ 0 → ⊥) → b.granted ≡ 0 → Chooses n b x (eqb held 0) b.g 0 0
    unfolding chosen granted_after
    chooses_none e low =
        rw (ne_eqb held 0 e)
        (record {
          grant = refl;
          grants = record { is = rw low };
          decides = record { is = refl };
        })
