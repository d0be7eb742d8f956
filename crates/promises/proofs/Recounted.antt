-- The promises of specs/Recounted.antt, each under its name.
--
--   form_same      == another count leaves a state well formed or not, as it was
--   step_same, recounted == one step with another count
use Rattle.std.specs.Prelude.{Err, None, Ok, Some}
use Prim.Native.Nat.{ℕ, ◌+◌, ◌≤◌, ◌<◌}
use mathlib.Core.Path.{◌≡◌, refl, sym, ◌∙◌, ap, ap₂}
use mathlib.Core.Bool.{Bool, true, false}
use mathlib.Core.List.{[], ◌∷◌}
use native.Mathlib.Omega.{arith}
use borrow.Author.Tests.{le-leb, lt-leb}
use lib.ListN.{length}
use Rattle.rules.specs.Results.{Check, Found, Answer}
use Rattle.rules.specs.declared.State.{State}
use Rattle.rules.specs.declared.Inputs.{Inputs}
use Rattle.rules.specs.declared.Outputs.{Outputs}
use Rattle.rules.specs.declared.Cycle.{Cycle}
use Rattle.rules.specs.Codes.{most_cycles}
use Rattle.rules.specs.Valid.{inputs_check}
use Rattle.rules.specs.State.{well_formed}
use Rattle.rules.specs.Phase.{seen, phase_after, opens_later, decides}
use Rattle.rules.specs.Step.{chosen, granted_after, owner_after, lock_after, moved, shown, answered, accepted, checked, step_of}
use Rattle.rules.proofs.Taken.{taken, next_count}
use Rattle.hosting.specs.Bytes.{state_bytes}
use Rattle.promises.specs.Machines.{arbiter}
use Rattle.promises.specs.Runs.{Run, stop, more, trace_of}
use Rattle.promises.specs.Recounted.{with_count, DifferInCount, Alike, CountOnlyCounts, RunsAlike, CountInItsBytes, LongRunsAreShown}
use Rattle.promises.proofs.Simulator.{call_of}

module _ (s : State) (k : ℕ) where
  form_same : s.count ≤ most_cycles → k ≤ most_cycles → well_formed (with_count k s) ≡ well_formed s
  unfolding well_formed
  form_same h i = simp (le-leb s.count 1000000 h, le-leb k 1000000 i)

  module _ (x : Inputs) where
    answered_same : (f : Found) (d : Bool) → Alike (answered f d (with_count k s) x) (answered f d s x)
    unfolding moved owner_after lock_after granted_after phase_after shown seen
    answered_same None d = (refl, refl)
    answered_same (Some w) d = (refl, refl)

    checked_same : (c : Check) → Alike (checked c (with_count k s) x) (checked c s x)
    unfolding accepted chosen decides opens_later phase_after seen
    checked_same (Ok _) = answered_same (chosen s x (decides s (seen s x))) (decides s (seen s x))
    checked_same (Err r) = (refl, refl)

    step_same : s.count < most_cycles → k < most_cycles → Alike (step_of (with_count k s) x) (step_of s x)
    unfolding step_of
    step_same h i = go (well_formed s) refl
      where
        go : (f : Bool) → well_formed s ≡ f → Alike (step_of (with_count k s) x) (step_of s x)
        go true e =
            let f = form_same (omega arith) (omega arith) ∙ e in
            simp (e, f, lt-leb 1000000 s.count h, lt-leb 1000000 k i) (checked_same (inputs_check s.n x))
        go false e = let f = form_same (omega arith) (omega arith) ∙ e in simp (e, f) (refl, refl)

pub count_only_counts : CountOnlyCounts
count_only_counts s t x same room below =
    let e : with_count s.count t ≡ s = ap (with_count s.count) (sym same) in
    rw e at (step_same t s.count x below room)

pub count_in_its_bytes : CountInItsBytes
unfolding state_bytes
count_in_its_bytes s k = refl

pub runs_alike : RunsAlike
unfolding trace_of
runs_alike s s' t [] stop same few = (t, stop, refl, same)
runs_alike s s' t (x ∷ xs) (more {s' = u} {o = o} e r) same few =
    go (step_of t x) refl (rw e at (count_only_counts s t x same (taken s x u o e).room (omega arith))) (λ v. runs_alike u s' v xs r)
  where
    go : (a : Answer) → step_of t x ≡ a → Alike (Ok (u, o)) (step_of t x)
        → ((v : State) → DifferInCount u v → v.count + length xs ≤ most_cycles
        → (t' : State) × (q : Run arbiter v xs t') × (trace_of q ≡ trace_of r) × DifferInCount s' t')
        → (t' : State) × (q : Run arbiter t (x ∷ xs) t') × (trace_of q ≡ trace_of (more {s = s} e r)) × DifferInCount s' t'
    go (Ok (v, p)) f alike later =
        let l = rw f at alike in
        let q = later v l.1 (omega (arith, next_count t x v p (taken t x v p f))) in
        let cycle : ◌≡◌ {A = Cycle} (record { inputs = x; outputs = p }) (record { inputs = x; outputs = o }) =
        ap (λ (y : Outputs). record { inputs = x; outputs = y }) (sym l.0) in
        (q.0, more f q.1, ap₂ ◌∷◌ cycle q.2, q.3)
    go (Err (q, v)) f alike later = absurd (rw f at alike)

-- the step itself, with another count
recounted : (s t : State) (x : Inputs) (o : Outputs) (k : ℕ) → step_of s x ≡ Ok (t, o) → k < most_cycles → step_of (with_count k s) x ≡ Ok (with_count (k + 1) t, o)
recounted s t x o k e room = go (step_of (with_count k s) x) refl
  where
    go : (a : Answer) → step_of (with_count k s) x ≡ a → step_of (with_count k s) x ≡ Ok (with_count (k + 1) t, o)
    go (Ok (u, p)) f =
        let l = rw (f, e) at (step_same s k x (taken s x t o e).room room) in
        let c : u.count ≡ k + 1 = next_count (with_count k s) x u p (taken (with_count k s) x u p f) in
        let same : u ≡ with_count (k + 1) t = ap (with_count u.count) l.1 ∙ ap (λ (i : ℕ). with_count i t) c in
        f ∙ ap (λ (v : State). Ok (v, p)) same ∙ ap (λ (y : Outputs). Ok (with_count (k + 1) t, y)) l.0
    go (Err (q, u)) f = absurd (rw (f, e) at (step_same s k x (taken s x t o e).room room))

pub long_runs_are_shown : LongRunsAreShown
long_runs_are_shown d s t x o k rest buffer e room space =
    let f = recounted s t x o k e room in
    call_of d (with_count k s) (with_count (k + 1) t) x o rest buffer (taken (with_count k s) x (with_count (k + 1) t) o f).sound space f
