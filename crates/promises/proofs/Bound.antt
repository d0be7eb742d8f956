-- The general bound, for every arbiter that serves in turn: while no access has more than C ready cycles, who keeps requesting is
-- handed the bus by the (C n + 1)-th ready cycle.
--
--   Ahead C k w v granted own == v ready cycles without being handed are not too many: k are left to the access that runs, w decisions
--                                can still be lost, and own says whether the grant is the master's
--   cycle_ahead  == one cycle keeps that
--   not_too_many == so a run in which the master is not handed the bus has not too many ready cycles
--   bound        == the promise
use Prim.Native.Nat.{ℕ, zero, suc, ◌+◌, ◌-◌, ◌*◌, ◌≤◌, ◌<◌}
use mathlib.Core.Path.{◌≡◌, refl, ap, subst}
use mathlib.Core.Bool.{Bool, true, false, ◌&&◌, cond, true≢false, false≢true}
use mathlib.Core.List.{List}
use native.Mathlib.Omega.{arith}
use native.Mathlib.Nat.{mul-le-mul_left, mul-add}
use borrow.Author.Tests.{eqb-false, lt-ltb}
use lib.Dec.{eqb, ltb}
use Rattle.rules.specs.declared.Inputs.{Inputs}
use Rattle.rules.specs.Codes.{ready}
use Rattle.rules.proofs.Choice.{differ}
use Rattle.rules.proofs.Masks.{high_some}
use Rattle.promises.specs.Machines.{Machine, InTurn}
use Rattle.promises.specs.Runs.{Run, stop, more, readies, Requests, AtMost, hands, handed_by}

abbrev Ahead : ℕ → ℕ → ℕ → ℕ → Bool → Bool → Type 0
Ahead C k w v false own = v ≤ k + C * w
Ahead C k w v true true = v ≤ 0
Ahead C k w v true false = (v ≤ k + (C + C * w)) × (v ≤ 1 + (C + C * w))

-- one loss less leaves one access less
pub one_less : (C w' w : ℕ) → w' < w → C + C * w' ≤ C * w
one_less C w' w h =
    let p = mul-le-mul_left C h in
    let q : C * (w' + 1) ≡ C * w' + C * 1 = mul-add C w' 1 in
    let u : C * suc w' ≡ C * (w' + 1) = ap (λ (z : ℕ). C * z) (omega arith) in
    omega arith

-- d is DECIDE, gr GRANTED, r HREADY; the primed ones hold after the cycle, and v counts the ready cycles after it
cycle_ahead : (d gr r own gr' own' : Bool) (C k w w' v : ℕ) → (d ≡ true → gr ≡ false) → (r ≡ true → 1 ≤ k) → (gr && r && own) ≡ false
    → (d ≡ true → gr' ≡ true) → (d ≡ true → own' ≡ false → w' < w)
    → (d ≡ false → gr' ≡ cond (gr && r) false gr) → (d ≡ false → own' ≡ own) → (d ≡ false → w' ≡ w)
    → Ahead C (cond r (cond gr C (k - 1)) k) w' v gr' own' → Ahead C k w (cond r 1 0 + v) gr own
cycle_ahead true true r own gr' own' C k w w' v low some nobody up lose down keep wait l = absurd (true≢false (low refl))
cycle_ahead true false r own false own' C k w w' v low some nobody up lose down keep wait l = absurd (false≢true (up refl))
cycle_ahead true false true own true true C k w w' v low some nobody up lose down keep wait l = omega (arith, some refl)
cycle_ahead true false false own true true C k w w' v low some nobody up lose down keep wait l = omega arith
cycle_ahead true false true own true false C k w w' v low some nobody up lose down keep wait l =
    omega (arith, some refl, one_less C w' w (lose refl refl), l.0)
cycle_ahead true false false own true false C k w w' v low some nobody up lose down keep wait l =
    omega (arith, one_less C w' w (lose refl refl), l.0)
cycle_ahead false false r own true own' C k w w' v low some nobody up lose down keep wait l = absurd (true≢false (down refl))
cycle_ahead false false true own false own' C k w w' v low some nobody up lose down keep wait l =
    let q : C * w' ≡ C * w = ap (λ (z : ℕ). C * z) (wait refl) in
    omega (arith, some refl)
cycle_ahead false false false own false own' C k w w' v low some nobody up lose down keep wait l =
    let q : C * w' ≡ C * w = ap (λ (z : ℕ). C * z) (wait refl) in
    omega arith
cycle_ahead false true true true gr' own' C k w w' v low some nobody up lose down keep wait l = absurd (true≢false nobody)
cycle_ahead false true true false true own' C k w w' v low some nobody up lose down keep wait l = absurd (true≢false (down refl))
cycle_ahead false true true false false own' C k w w' v low some nobody up lose down keep wait l =
    let q : C * w' ≡ C * w = ap (λ (z : ℕ). C * z) (wait refl) in
    (omega (arith, some refl), omega arith)
cycle_ahead false true false own false own' C k w w' v low some nobody up lose down keep wait l = absurd (false≢true (down refl))
cycle_ahead false true false true true true C k w w' v low some nobody up lose down keep wait l = omega arith
cycle_ahead false true false true true false C k w w' v low some nobody up lose down keep wait l = absurd (false≢true (keep refl))
cycle_ahead false true false false true true C k w w' v low some nobody up lose down keep wait l = absurd (true≢false (keep refl))
cycle_ahead false true false false true false C k w w' v low some nobody up lose down keep wait l =
    let q : C * w' ≡ C * w = ap (λ (z : ℕ). C * z) (wait refl) in
    (omega (arith, l.0), omega (arith, l.1))

none_ahead : (C k w : ℕ) (granted own : Bool) → Ahead C k w 0 granted own
none_ahead C k w false own = omega arith
none_ahead C k w true true = omega arith
none_ahead C k w true false = (omega arith, omega arith)

-- the parts of `handed_by` and `AtMost` at a cycle
pub not_now : (a b : Bool) (v : ℕ) → cond a (ltb 0 (suc v)) b ≡ false → (a ≡ false) × (b ≡ false)
not_now true b v e = absurd (differ (ltb 0 (suc v)) (lt-ltb 0 (suc v) (omega arith)) e)
not_now false b v e = (refl, e)

within_now : (r : Bool) (used C : ℕ) (A B : Type 0) → cond r ((used + 1 ≤ C) × A) B → r ≡ true → 1 ≤ C - used
within_now true used C A B h e = omega (arith, h.0)
within_now false used C A B h e = absurd (false≢true e)

-- of v + 1 ready cycles one is gone after a ready one
pub fewer : (r : Bool) (v q : ℕ) → suc v ≤ cond r 1 0 + q → suc v - cond r 1 0 ≤ q
fewer true v q h = omega arith
fewer false v q h = omega arith

pub whole : (r : Bool) (v : ℕ) → cond r 1 0 + (suc v - cond r 1 0) ≡ suc v
whole true v = omega arith
whole false v = omega arith

module _ {M : Machine} (decision : M.Place → Inputs → Bool) (turns : M.Place → ℕ → ℕ) (F : InTurn M decision turns) (C i : ℕ) where
  within_next : {s' t : M.Place} {xs : List Inputs} (q : Run M s' xs t) (r g : Bool) (used k : ℕ)
      → cond r ((used + 1 ≤ C) × AtMost C (cond g 0 (used + 1)) q) (AtMost C used q) → AtMost C (cond r (cond g 0 (used + 1)) used) q
  within_next q true g used k h = h.1
  within_next q false g used k h = h

  left_over : (r g : Bool) (used : ℕ) → C - cond r (cond g 0 (used + 1)) used ≡ cond r (cond g C (C - used - 1)) (C - used)
  left_over true true used = omega arith
  left_over true false used = omega arith
  left_over false g used = refl

  not_too_many : {s t : M.Place} {xs : List Inputs} (r : Run M s xs t) (v used : ℕ) → i < (M.state s).n → Requests i r → AtMost C used r
      → handed_by v i r ≡ false → v ≤ readies r → Ahead C (C - used) (turns s i) v (M.state s).granted (eqb (M.state s).g i)
  unfolding readies Requests AtMost handed_by
  not_too_many {s = s} stop zero used hi a w h l = none_ahead C (C - used) (turns s i) (M.state s).granted (eqb (M.state s).g i)
  not_too_many stop (suc v) used hi a w h l = absurd (omega arith)
  not_too_many (more {s = s} e r) zero used hi a w h l = none_ahead C (C - used) (turns s i) (M.state s).granted (eqb (M.state s).g i)
  not_too_many (more {s = s} {s' = s'} {o = o} {x = x} e r) (suc v) used hi a w h l =
      let p = not_now (hands i (M.state s) x) (handed_by (suc v - cond (ready x) 1 0) i r) v h in
      let hi' : i < (M.state s').n = rw (F.masters s x s' o e) hi in
      let next =
      not_too_many r (suc v - cond (ready x) 1 0) (cond (ready x) (cond (M.state s).granted 0 (used + 1)) used) hi' a.1
      (within_next r (ready x) (M.state s).granted used 0 w) p.1 (fewer (ready x) v (readies r) l) in
      subst (λ (z : ℕ). Ahead C (C - used) (turns s i) z (M.state s).granted (eqb (M.state s).g i)) (whole (ready x) v)
      (cycle_ahead (decision s x) (M.state s).granted (ready x) (eqb (M.state s).g i) (M.state s').granted (eqb (M.state s').g i)
      C (C - used) (turns s i) (turns s' i) (suc v - cond (ready x) 1 0)
      (F.low s x)
      (within_now (ready x) used C _ _ w)
      p.0
      (λ d. F.raised s x s' o e d (high_some x.hbusreq i a.0))
      (λ d q. F.nearer s x s' o e d i hi a.0 (eqb-false (M.state s').g i q))
      (F.falls s x s' o e)
      (λ d. ap (λ (z : ℕ). eqb z i) (F.stays s x s' o e d))
      (λ d. F.waits s x s' o e d i)
      (subst (λ (z : ℕ). Ahead C z (turns s' i) (suc v - cond (ready x) 1 0) (M.state s').granted (eqb (M.state s').g i))
      (left_over (ready x) (M.state s).granted used) next))

  -- from a place where i can lose fewer than n decisions, and one less where another is next
  pub bound : {s t : M.Place} {xs : List Inputs} (r : Run M s xs t) (n : ℕ) → 1 ≤ C → i < (M.state s).n
      → turns s i < n → (((M.state s).g ≡ i → ⊥) → turns s i + 1 < n)
      → Requests i r → AtMost C 0 r → C * n + 1 ≤ readies r → handed_by (C * n + 1) i r ≡ true
  bound {s = s} r n hc hi few other a w l = go (handed_by (C * n + 1) i r) refl
    where
      m : C + C * turns s i ≤ C * n
      m = one_less C (turns s i) n few

      last : (granted own : Bool) → eqb (M.state s).g i ≡ own → Ahead C (C - 0) (turns s i) (C * n + 1) granted own → false ≡ true
      last false own p q = absurd (omega (arith, m))
      last true true p q = absurd (omega (arith, m))
      last true false p q =
          let u = one_less C (turns s i + 1) n (other (eqb-false (M.state s).g i p)) in
          let z : C * (turns s i + 1) ≡ C * turns s i + C * 1 = mul-add C (turns s i) 1 in
          absurd (omega (arith, q.1, m))

      go : (b : Bool) → handed_by (C * n + 1) i r ≡ b → b ≡ true
      go true e = refl
      go false e = last (M.state s).granted (eqb (M.state s).g i) refl (not_too_many r (C * n + 1) 0 hi a w e l)
