-- The shares: who requests at every decision loses at most n - 1 in a row, and nobody wins twice in the meantime.
--
--   reached_sound == every state that a run reaches is well formed, and has the n of its reset
--   few_losses    == decisions lost in a row are no more than the turns
--   one_win_each  == in such a stretch no master wins twice
use Prim.Native.Nat.{ℕ, ◌+◌, ◌≤◌, ◌<◌}
use mathlib.Core.Path.{◌≡◌, refl, sym, ◌∙◌, subst}
use mathlib.Core.Bool.{Bool, true, false, ◌&&◌, cond}
use mathlib.Core.List.{List}
use native.Mathlib.Omega.{arith}
use borrow.Author.Tests.{eqb-true}
use lib.Dec.{eqb}
use Rattle.rules.specs.declared.State.{State}
use Rattle.rules.specs.declared.Inputs.{Inputs}
use Rattle.rules.specs.State.{WellFormed}
use Rattle.rules.specs.Step.{step_of}
use Rattle.rules.proofs.Winner.{turns}
use Rattle.rules.proofs.WellFormed.{reset_is, reset_sound}
use Rattle.rules.proofs.Taken.{taken, decide, next_n}
use Rattle.rules.proofs.Kept.{kept}
use Rattle.promises.specs.Machines.{arbiter}
use Rattle.promises.specs.Runs.{Run, stop, more, Reached, decisions, wins, Loses}
use Rattle.promises.proofs.Served.{turns_of, loss_nearer, turns_kept}

-- a state of a run of n masters
pub record Sound (n : ℕ) (s : State) : Type 0 where
  pub formed : WellFormed s
  pub masters : s.n ≡ n

pub run_sound : {n : ℕ} {s t : State} {xs : List Inputs} → Sound n s → Run arbiter s xs t → Sound n t
run_sound h stop = h
run_sound h (more {s = s} {s' = s'} {o = o} {x = x} e r) =
    let k = taken s x s' o e in
    run_sound (record { formed = kept s x s' o k; masters = next_n s x s' o k ∙ h.masters }) r

pub reached_sound : {n : ℕ} {t : State} → Reached step_of n t → Sound n t
reached_sound {n} h =
    let b = reset_is n h.first h.began in
    run_sound (subst (Sound n) (sym b.is) (record { formed = reset_sound n b.few b.many; masters = refl })) h.run

pub few_losses : (i : ℕ) {s t : State} {xs : List Inputs} (r : Run arbiter s xs t) → i < s.n → Loses decide i r → decisions decide r ≤ turns_of s i
unfolding decisions Loses
few_losses i stop hi l = omega arith
few_losses i (more {s = s} {s' = s'} {o = o} {x = x} e r) hi l =
    go (decide s x) refl (few_losses i r (rw (next_n s x s' o (taken s x s' o e)) hi) l.1)
  where
    go : (d : Bool) → decide s x ≡ d → decisions decide r ≤ turns_of s' i → cond (decide s x) 1 0 + decisions decide r ≤ turns_of s i
    go true p ih =
        let lost = l.0 p in
        rw p (omega (arith, loss_nearer s x s' o (taken s x s' o e) p i hi lost.0 lost.1))
    go false p ih = rw p (omega (arith, turns_kept s x s' o (taken s x s' o e) p i))

-- once the grant is as near to i as j's win would bring it, j wins no more
no_win : (i j : ℕ) {s t : State} {xs : List Inputs} (r : Run arbiter s xs t) → i < s.n → turns_of s i ≤ turns s.n j i → Loses decide i r → wins decide j r ≡ 0
unfolding wins Loses
no_win i j stop hi near l = refl
no_win i j (more {s = s} {s' = s'} {o = o} {x = x} e r) hi near l =
    go (decide s x) (eqb s'.g j) refl refl (no_win i j r (rw n hi))
  where
    n : s'.n ≡ s.n
    n = next_n s x s' o (taken s x s' o e)

    go : (d b : Bool) → decide s x ≡ d → eqb s'.g j ≡ b → (turns_of s' i ≤ turns s'.n j i → Loses decide i r → wins decide j r ≡ 0)
        → cond (decide s x && eqb s'.g j) 1 0 + wins decide j r ≡ 0
    go true true p q ih =
        let lost = l.0 p in
        let c = loss_nearer s x s' o (taken s x s' o e) p i hi lost.0 lost.1 in
        let g : turns_of s' i ≡ turns s.n j i = rw (n, eqb-true s'.g j q) in
        absurd (omega arith)
    go true false p q ih =
        let lost = l.0 p in
        let c = loss_nearer s x s' o (taken s x s' o e) p i hi lost.0 lost.1 in
        rw (p, q) (omega (arith, ih (rw n (omega (arith, same))) l.1))
      where
        same : turns_of s' i ≡ turns s.n s'.g i
        same = rw n
    go false b p q ih =
        let c = turns_kept s x s' o (taken s x s' o e) p i in
        rw p (omega (arith, ih (rw n (omega (arith, same))) l.1))
      where
        same : turns_of s' i ≡ turns s.n s'.g i
        same = rw n

pub one_win_each : (i j : ℕ) {s t : State} {xs : List Inputs} (r : Run arbiter s xs t) → i < s.n → Loses decide i r → wins decide j r ≤ 1
unfolding wins Loses
one_win_each i j stop hi l = omega arith
one_win_each i j (more {s = s} {s' = s'} {o = o} {x = x} e r) hi l =
    go (decide s x && eqb s'.g j) refl (one_win_each i j r (rw n hi) l.1)
  where
    n : s'.n ≡ s.n
    n = next_n s x s' o (taken s x s' o e)

    right : (a b : Bool) → (a && b) ≡ true → b ≡ true
    right = Rattle.rules.proofs.Choice.and_right

    go : (b : Bool) → (decide s x && eqb s'.g j) ≡ b → wins decide j r ≤ 1 → cond (decide s x && eqb s'.g j) 1 0 + wins decide j r ≤ 1
    go true p ih =
        let g = eqb-true s'.g j (right (decide s x) (eqb s'.g j) p) in
        let z = no_win i j r (rw n hi) (rw g (omega arith)) l.1 in
        rw p (omega arith)
    go false p ih = rw p (omega arith)
