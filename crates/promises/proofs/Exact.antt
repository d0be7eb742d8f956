-- The exact bound: while nobody locks, who keeps requesting is handed the bus by the (5 n)-th ready cycle.
--
--   Still granted own k w == the ready cycles until the master is handed the bus, at most: k are left to the access that runs, and w decisions
--                            can still be lost
--   cycle_still    == each ready cycle takes one of them
--   serves_exactly == the bound
use Prim.Native.Nat.{ℕ, zero, suc, ◌+◌, ◌-◌, ◌*◌, ◌≤◌, ◌<◌}
use mathlib.Core.Path.{◌≡◌, refl, sym, ap, subst}
use mathlib.Core.Bool.{Bool, true, false, ◌&&◌, cond, true≢false, false≢true}
use mathlib.Core.List.{List}
use native.Mathlib.Omega.{arith}
use borrow.Author.Tests.{eqb-false}
use lib.Dec.{eqb}
use Rattle.rules.specs.declared.State.{State}
use Rattle.rules.specs.declared.Inputs.{Inputs}
use Rattle.rules.specs.Codes.{ready}
use Rattle.rules.specs.Step.{step_of}
use Rattle.rules.proofs.Masks.{high_some}
use Rattle.rules.proofs.Winner.{turns_below, turns_other}
use Rattle.rules.proofs.Taken.{taken, decide}
use Rattle.promises.specs.Machines.{arbiter}
use Rattle.promises.specs.Runs.{Run, stop, more, readies, Requests, Unlocked, hands, handed_by}
use Rattle.promises.specs.Promises.{ServesExactly}
use Rattle.promises.proofs.Bound.{one_less, not_now, fewer, whole}
use Rattle.promises.proofs.Served.{turns_of, served}
use Rattle.promises.proofs.Fair.{reached_sound}
use Rattle.promises.proofs.Lockfree.{longest, room, room_some, room_most, room_falls, room_handed, lock_free}

abbrev Still : Bool → Bool → ℕ → ℕ → ℕ
Still false own k w = k + longest * w
Still true true k w = 1
Still true false k w = 1 + (longest + longest * w)

still_some : (g own : Bool) (k w : ℕ) → 1 ≤ k → 1 ≤ Still g own k w
still_some false own k w h = omega arith
still_some true true k w h = omega arith
still_some true false k w h = omega arith

-- d is DECIDE, gr GRANTED, r HREADY, own whether the grant is the master's; the primed ones hold after the cycle
cycle_still : (d gr r own gr' own' : Bool) (k k' w w' v : ℕ) → (d ≡ true → gr ≡ false) → (gr && r && own) ≡ false → 1 ≤ k'
    → (gr ≡ false → k' + cond r 1 0 ≤ k) → (gr ≡ true → r ≡ true → k' ≤ longest)
    → (d ≡ true → gr' ≡ true) → (d ≡ true → own' ≡ false → w' < w)
    → (d ≡ false → gr' ≡ cond (gr && r) false gr) → (d ≡ false → own' ≡ own) → (d ≡ false → w' ≡ w)
    → v + 1 ≤ Still gr' own' k' w' → cond r 1 0 + v + 1 ≤ Still gr own k w
cycle_still true true r own gr' own' k k' w w' v low nobody some falls fresh up lose down keep wait l = absurd (true≢false (low refl))
cycle_still true false r own false own' k k' w w' v low nobody some falls fresh up lose down keep wait l = absurd (false≢true (up refl))
cycle_still true false r own true true k k' w w' v low nobody some falls fresh up lose down keep wait l = omega (arith, falls refl)
cycle_still true false r own true false k k' w w' v low nobody some falls fresh up lose down keep wait l =
    omega (arith, falls refl, one_less longest w' w (lose refl refl))
cycle_still false false r own true own' k k' w w' v low nobody some falls fresh up lose down keep wait l = absurd (true≢false (down refl))
cycle_still false false r own false own' k k' w w' v low nobody some falls fresh up lose down keep wait l = omega (arith, falls refl, wait refl)
cycle_still false true true true gr' own' k k' w w' v low nobody some falls fresh up lose down keep wait l = absurd (true≢false nobody)
cycle_still false true true false true own' k k' w w' v low nobody some falls fresh up lose down keep wait l = absurd (true≢false (down refl))
cycle_still false true true false false own' k k' w w' v low nobody some falls fresh up lose down keep wait l =
    omega (arith, fresh refl refl, wait refl)
cycle_still false true false own false own' k k' w w' v low nobody some falls fresh up lose down keep wait l = absurd (false≢true (down refl))
cycle_still false true false true true true k k' w w' v low nobody some falls fresh up lose down keep wait l = omega arith
cycle_still false true false true true false k k' w w' v low nobody some falls fresh up lose down keep wait l = absurd (false≢true (keep refl))
cycle_still false true false false true true k k' w w' v low nobody some falls fresh up lose down keep wait l = absurd (true≢false (keep refl))
cycle_still false true false false true false k k' w w' v low nobody some falls fresh up lose down keep wait l = omega (arith, wait refl)

still : (i : ℕ) {s t : State} {xs : List Inputs} (r : Run arbiter s xs t) (v : ℕ) → i < s.n → s.hmastlock ≡ false → Unlocked r → Requests i r
    → handed_by v i r ≡ false → v ≤ readies r → v + 1 ≤ Still s.granted (eqb s.g i) (room s.granted s.phase) (turns_of s i)
unfolding readies Requests Unlocked handed_by
still i {s = s} stop zero hi free u a h l = still_some s.granted (eqb s.g i) (room s.granted s.phase) (turns_of s i) (room_some s.granted s.phase)
still i stop (suc v) hi free u a h l = absurd (omega arith)
still i (more {s = s} e r) zero hi free u a h l = still_some s.granted (eqb s.g i) (room s.granted s.phase) (turns_of s i) (room_some s.granted s.phase)
still i (more {s = s} {s' = s'} {o = o} {x = x} e r) (suc v) hi free u a h l =
    let k = taken s x s' o e in
    let p = not_now (hands i s x) (handed_by (suc v - cond (ready x) 1 0) i r) v h in
    let next =
    still i r (suc v - cond (ready x) 1 0) (rw (served.masters s x s' o e) hi) (lock_free s x s' o k free u.0) u.1 a.1 p.1
    (fewer (ready x) v (readies r) l) in
    subst (λ (z : ℕ). z + 1 ≤ Still s.granted (eqb s.g i) (room s.granted s.phase) (turns_of s i)) (whole (ready x) v)
    (cycle_still (decide s x) s.granted (ready x) (eqb s.g i) s'.granted (eqb s'.g i)
    (room s.granted s.phase) (room s'.granted s'.phase) (turns_of s i) (turns_of s' i) (suc v - cond (ready x) 1 0)
    (served.low s x)
    p.0
    (room_some s'.granted s'.phase)
    (λ g. subst (λ (b : Bool). room s'.granted s'.phase + cond (ready x) 1 0 ≤ room b s.phase) (sym g) (room_falls s x s' o k i g free a.0))
    (λ g q. subst (λ (b : Bool). room s'.granted s'.phase ≤ cond b longest 1) q (room_handed s x s' o k g))
    (λ d. served.raised s x s' o e d (high_some x.hbusreq i a.0))
    (λ d q. served.nearer s x s' o e d i hi a.0 (eqb-false s'.g i q))
    (served.falls s x s' o e)
    (λ d. ap (λ (z : ℕ). eqb z i) (served.stays s x s' o e d))
    (λ d. served.waits s x s' o e d i)
    next)

pub serves_exactly : ServesExactly step_of
serves_exactly n i s t xs h hi free r u a l = go (handed_by (longest * n) i r) refl
  where
    m : s.n ≡ n
    m = (reached_sound h).masters

    few : longest + longest * turns_of s i ≤ longest * n
    few = one_less longest (turns_of s i) n (omega (arith, m, turns_below s.n s.g i (omega (arith, m))))

    most : (g own : Bool) (k : ℕ) → k ≤ longest → eqb s.g i ≡ own → longest * n + 1 ≤ Still g own k (turns_of s i) → false ≡ true
    most false own k top p q = absurd (omega (arith, few))
    most true true k top p q = absurd (omega (arith, few))
    most true false k top p q =
        let o = turns_other s.n s.g i (reached_sound h).formed.grant (omega (arith, m)) (eqb-false s.g i p) in
        absurd (omega (arith, one_less longest (turns_of s i + 1) n (omega (arith, m))))

    go : (b : Bool) → handed_by (longest * n) i r ≡ b → b ≡ true
    go true e = refl
    go false e =
        most s.granted (eqb s.g i) (room s.granted s.phase)
        (room_most s.granted s.phase s.hmastlock (reached_sound h).formed.phase) refl
        (still i r (longest * n) (omega (arith, m)) free u a e l)
