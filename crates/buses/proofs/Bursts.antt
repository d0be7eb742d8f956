-- What keeps the bus busy, from the numbers of phases.
--
--   settled_begun == a phase that is not Fresh is neither Fixed nor Open exactly where its number is 0
--   opened_free   == a first beat opens Fixed or Open exactly where its burst is of a protected kind
--   fresh_runs    == a Fresh access
--   later_runs    == one that is no longer Fresh
use Prim.Native.Nat.{ℕ, zero, suc, ◌≤◌}
use mathlib.Core.Path.{◌≡◌, refl, sym, ◌∙◌, ap}
use mathlib.Core.Bool.{Bool, true, false, not, ◌&&◌, cond}
use native.Mathlib.Omega.{arith}
use lib.Dec.{eqb}
use Rattle.rules.specs.declared.Burst.{Burst}
use Rattle.rules.specs.declared.Burst.TheVariants as burst
use Rattle.rules.specs.declared.Phase.{Phase}
use Rattle.rules.specs.declared.Phase.TheVariants.{Fresh}
use Rattle.rules.specs.declared.Inputs.{Inputs}
use Rattle.rules.specs.Codes.{burst_of, ready, nonseq}
use Rattle.rules.specs.Phase.{seen, protected, phase_opened, settled, is_fresh, opens_later}
use Rattle.buses.specs.declared.Bus.{Bus}
use Rattle.buses.specs.Buses.{phase_from, Begun, low_after, Runs}
use Rattle.buses.proofs.Phases.{number, begun_number, picked}

settled_from : (k : ℕ) → k ≤ 4 → settled (phase_from k) ≡ eqb k 0
unfolding phase_from
settled_from zero h = refl
settled_from (suc zero) h = refl
settled_from (suc (suc zero)) h = refl
settled_from (suc (suc (suc zero))) h = refl
settled_from (suc (suc (suc (suc zero)))) h = refl
settled_from (suc (suc (suc (suc (suc k))))) h = absurd (omega arith)

pub settled_begun : {p : Phase} {k : ℕ} → Begun p k → settled p ≡ eqb k 0
settled_begun {p} {k} e = ap settled (sym e.is) ∙ settled_from k e.small

not_fresh : (k : ℕ) → k ≤ 4 → is_fresh (phase_from k) ≡ false
unfolding phase_from
not_fresh zero h = refl
not_fresh (suc zero) h = refl
not_fresh (suc (suc zero)) h = refl
not_fresh (suc (suc (suc zero))) h = refl
not_fresh (suc (suc (suc (suc zero)))) h = refl
not_fresh (suc (suc (suc (suc (suc k))))) h = absurd (omega arith)

and_true : (b : Bool) → (b && true) ≡ b
and_true true = refl
and_true false = refl

lock_free : (lock : Bool) → settled (phase_opened burst.Unspecified lock) ≡ not lock
lock_free true = refl
lock_free false = refl

pub opened_free : (b : Burst) (lock : Bool) → settled (phase_opened b lock) ≡ not (protected b lock)
opened_free burst.Single lock = refl
opened_free burst.Unspecified lock = lock_free lock
opened_free (burst.Fixed beats) lock = refl
opened_free burst.NotBuilt lock = refl
opened_free burst.NoCode lock = refl

-- r is HREADY, t is NONSEQ, p is whether the burst is of a protected kind, and q the phase that its first beat opens
fresh_free : (r t p : Bool) (q : Phase) → settled q ≡ not p → (settled (cond (r && t) q Fresh) && not (p && t && not r)) ≡ cond t (not p) true
fresh_free true true true q e = rw e
fresh_free true true false q e = rw e
fresh_free true false true q e = refl
fresh_free true false false q e = refl
fresh_free false true true q e = refl
fresh_free false true false q e = refl
fresh_free false false true q e = refl
fresh_free false false false q e = refl

none_picked : (t : Bool) (k : ℕ) → cond t (eqb k 0) true ≡ eqb (cond t k 0) 0
none_picked true k = refl
none_picked false k = refl

module _ (n : ℕ) (b : Bus) (x : Inputs) where
  -- first is what a first beat opens
  pub fresh_runs : (first busy k : ℕ) → b.phase ≡ 5 → Begun (phase_opened (burst_of x.hburst) (eqb b.hmastlock 1)) first
      → busy ≡ cond (nonseq x) first 0 → k ≡ cond (ready x && nonseq x) first 5
      → Runs n b x busy k
  unfolding phase_from seen opens_later
  fresh_runs first busy k e o p q =
      let f = opened_free (burst_of x.hburst) (eqb b.hmastlock 1) in
      rw (p, q)
      (record {
        phase = rw e (picked (ready x && nonseq x) (begun_number o) (number 5 (omega arith)));
        free =
            rw e (fresh_free (ready x) (nonseq x) (protected (burst_of x.hburst) (eqb b.hmastlock 1)) (phase_opened (burst_of x.hburst) (eqb b.hmastlock 1)) f
            ∙ rw (← f, settled_begun o) (none_picked (nonseq x) first));
      })

  pub later_runs : (k : ℕ) → b.phase ≤ 4 → Begun (low_after n b x) k → Runs n b x k k
  unfolding opens_later
  later_runs k h l =
      record {
        phase = begun_number l;
        free = rw (not_fresh b.phase h) (and_true _ ∙ settled_begun l);
      }
