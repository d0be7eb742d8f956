-- The judge takes every trace that the arbiter shows, and charges no guarantee in it.
--
--   valid_trace  == every cycle of a run's trace is valid for n
--   trace_length == and there are not too many
--   cleared      == the judge's verdict
use Rattle.std.specs.Prelude.{Ok}
use Prim.Native.Nat.{ℕ, zero, suc, ◌+◌, ◌<◌}
use mathlib.Core.Path.{◌≡◌, refl, sym, ◌∙◌, subst}
use mathlib.Core.Bool.{true≢false}
use mathlib.Core.List.{List}
use native.Mathlib.Omega.{arith}
use lib.ListN.{length, get_or}
use Rattle.rules.specs.declared.State.{State}
use Rattle.rules.specs.declared.Inputs.{Inputs}
use Rattle.rules.specs.declared.Outputs.{Outputs}
use Rattle.rules.specs.Valid.{cycle_check}
use Rattle.rules.specs.Step.{step_of}
use Rattle.rules.proofs.WellFormed.{reset_is, reset_sound}
use Rattle.rules.proofs.Taken.{taken, decide, next_n, next_count}
use Rattle.rules.proofs.Kept.{kept}
use Rattle.rules.proofs.Shown.{valid_shown}
use Rattle.rulebook.specs.State.{no_cycle}
use Rattle.rulebook.proofs.Promises.{every_valid_trace_is_judged, charged_where_broken}
use Rattle.promises.specs.Machines.{arbiter}
use Rattle.promises.specs.Runs.{Run, stop, more, trace_of}
use Rattle.promises.specs.Promises.{ClearedByTheJudge}
use Rattle.promises.proofs.Fair.{Sound, run_sound}
use Rattle.promises.proofs.Unbroken.{breaks_no_guarantee}

valid_trace : (n : ℕ) {s t : State} {xs : List Inputs} → Sound n s → (r : Run arbiter s xs t) → (k : ℕ) → k < length (trace_of r) → cycle_check n (get_or (trace_of r) k no_cycle) ≡ Ok tt
unfolding trace_of
valid_trace n f stop k l = absurd (omega arith)
valid_trace n f (more {s = s} {s' = s'} {o = o} {x = x} e r) zero l =
    let t = taken s x s' o e in
    subst (λ (m : ℕ). cycle_check m (record { inputs = x; outputs = o }) ≡ Ok tt) f.masters
    (subst (λ (u : Outputs). cycle_check s.n (record { inputs = x; outputs = u }) ≡ Ok tt) (sym t.shows) (valid_shown s x (decide s x) t.sound t.good))
valid_trace n f (more {s = s} {s' = s'} {o = o} {x = x} e r) (suc k) l =
    let t = taken s x s' o e in
    valid_trace n (record { formed = kept s x s' o t; masters = next_n s x s' o t ∙ f.masters }) r k (omega arith)

-- the arbiter counts the cycles that it shows
trace_length : {s t : State} {xs : List Inputs} (r : Run arbiter s xs t) → s.count + length (trace_of r) ≡ t.count
unfolding trace_of
trace_length stop = omega arith
trace_length (more {s = s} {s' = s'} {o = o} {x = x} e r) =
    let c = next_count s x s' o (taken s x s' o e) in
    omega (arith, trace_length r)

pub cleared : ClearedByTheJudge step_of
cleared n s t xs began r =
    let b = reset_is n s began in
    let f : Sound n s = subst (Sound n) (sym b.is) (record { formed = reset_sound n b.few b.many; masters = refl }) in
    let c : s.count ≡ 0 = rw b.is in (
      every_valid_trace_is_judged n (trace_of r) b.few b.many (omega (arith, trace_length r, (run_sound f r).formed.room)) (valid_trace n f r),
      λ j d k l g e m.
          let broken = (charged_where_broken n (trace_of r) j d k l g).0 m in
          true≢false (sym broken ∙ breaks_no_guarantee n s t xs began r g e k l),
    )
