-- A well-formed judge stays so.
--
--   start_lost  == the lost counts of a start are 0
--   start_sound == the judge of a start is well formed
--   step_sound  == and so is the judge after a valid cycle
use Rattle.std.specs.Prelude.{Ok}
use Prim.Native.Nat.{ℕ, ◌-◌, ◌^◌, ◌≤◌, ◌<◌}
use mathlib.Core.Path.{◌≡◌, refl, ◌∙◌}
use mathlib.Core.Bool.{Bool, true, false, ◌||◌, cond}
use native.Mathlib.Omega.{arith}
use borrow.Author.Tests.{leb-true, eqb-false, le-leb, lt-leb}
use lib.Dec.{eqb, leb}
use lib.ListN.{get_or, get_or-replicate}
use lib.Pow.{pow_pos}
use Rattle.rules.specs.declared.Burst.{Burst}
use Rattle.rules.specs.declared.Burst.TheVariants as burst
use Rattle.rules.specs.declared.Cycle.{Cycle}
use Rattle.rules.specs.Codes.{burst_of, most_masters, most_cycles, longest_burst}
use Rattle.rules.specs.Valid.{inputs_too_large, outputs_too_large, inputs_not_built, inputs_absent, cycle_check}
use Rattle.rules.proofs.Choice.{cond_elim, and_right, and_both}
use Rattle.rules.proofs.Masks.{high_below}
use Rattle.rules.proofs.Total.{requests_below}
use Rattle.rules.proofs.Kept.{BeatsOk, built_burst}
use Rattle.rulebook.specs.declared.Watch.{Watch}
use Rattle.rulebook.specs.declared.Watch.TheVariants.{Nothing, OnG2, OnG3}
use Rattle.rulebook.specs.declared.Judge.{Judge}
use Rattle.rulebook.specs.Columns.{is_ready, owners_request, handover}
use Rattle.rulebook.specs.Traces.{opens}
use Rattle.rulebook.specs.Rules.{locked_incr, waits, is_watched, loses, limit}
use Rattle.rulebook.specs.State.{no_cycle, start_judge, watch_ok}
use Rattle.rulebook.specs.Charges.{g3_with, burst_watch, opening_watch, later_watch, opened_after, watch_after, after_decision, lost_after, next_judge}
use Rattle.rulebook.specs.Kept.{Sound}
use Rattle.rulebook.proofs.Rows.{longer_below}
use Rattle.rulebook.proofs.Counts.{list_at, list_length, some_limit}

no_cycle_good : (n : ℕ) → 2 ≤ n → cycle_check n no_cycle ≡ Ok tt
unfolding cycle_check inputs_too_large outputs_too_large inputs_not_built inputs_absent burst_of
no_cycle_good n few = rw (lt-leb (2 ^ n) 0 (pow_pos n), lt-leb n 0 (omega arith))

pub start_lost : (n i : ℕ) → i < most_masters → get_or (start_judge n).lost i 0 ≡ 0
start_lost n i below = get_or-replicate {A = ℕ} 16 i 0 0 below

pub start_sound : (n : ℕ) → 2 ≤ n → n ≤ most_masters → Sound (start_judge n)
start_sound n few many =
    record {
      few = few;
      many = many;
      room = omega arith;
      previous = no_cycle_good n few;
      locked = omega arith;
      waited = omega arith;
      size = refl;
      lost = λ i below. rw (start_lost n i below) (some_limit n (omega arith));
      absent = λ i below out. start_lost n i below;
      watch = refl;
      start = λ e. refl;
    }

-- the lost counts
lost_below : (j : Judge) → Sound j → (c : Cycle) (i : ℕ) → i < most_masters → lost_after j c i < limit j.n
unfolding lost_after
lost_below j s c i below =
    cond_elim (λ (z : ℕ). z < limit j.n) (after_decision j)
    (λ _. longer_below (limit j.n) (get_or j.lost i 0) (loses i j.previous c) (s.lost i below))
    (λ _. s.lost i below)

lost_absent : (j : Judge) → Sound j → (c : Cycle) (i : ℕ) → i < most_masters → j.n ≤ i → lost_after j c i ≡ 0
unfolding lost_after
lost_absent j s c i below out =
    cond_elim (λ (z : ℕ). z ≡ 0) (after_decision j)
    (λ _. rw (high_below j.n j.previous.inputs.hbusreq i (requests_below j.n j.previous s.previous) out))
    (λ _. s.absent i below out)

-- the watch
for_ok : (k : ℕ) → k ≤ longest_burst - 1 → watch_ok true (g3_with k) ≡ true
for_ok k top =
    cond_elim (λ (w : Watch). watch_ok true w ≡ true) (eqb k 0) (λ _. refl)
    (λ e. and_both (le-leb 1 k (omega (arith, eqb-false k 0 e))) (le-leb k 3 top))

of_ok : (b : Burst) → BeatsOk b → watch_ok true (burst_watch b) ≡ true
of_ok burst.Single h = refl
of_ok burst.Unspecified h = refl
of_ok (burst.Fixed b) h = for_ok (b - 1) (omega (arith, h.1))
of_ok burst.NotBuilt h = refl
of_ok burst.NoCode h = refl

from_ok : (c : Cycle) → watch_ok true (opening_watch c) ≡ true
unfolding opening_watch
from_ok c =
    cond_elim (λ (w : Watch). watch_ok true w ≡ true) (is_watched c)
    (λ _. of_ok (burst_of c.inputs.hburst) (built_burst c.inputs.hburst))
    (λ _. refl)

on_ok : (w : Watch) (c : Cycle) → watch_ok true w ≡ true → watch_ok true (later_watch w c) ≡ true
on_ok Nothing c h = refl
on_ok OnG2 c h = cond_elim (λ (w : Watch). watch_ok true w ≡ true) (owners_request c) (λ _. refl) (λ _. refl)
on_ok (OnG3 k) c h =
    let top = leb-true k 3 (and_right (leb 1 k) (leb k 3) h) in
    cond_elim (λ (w : Watch). watch_ok true w ≡ true) (is_ready c) (λ _. for_ok (k - 1) (omega arith)) (λ _. h)

-- over plain flags: x is a handover, o whether the access has opened, s whether it opens now
after_ok : (x o s : Bool) (w : Watch) (c : Cycle) → watch_ok o w ≡ true
    → watch_ok (cond x false (o || s)) (cond x Nothing (cond o (later_watch w c) (cond s (opening_watch c) Nothing))) ≡ true
after_ok true o s w c h = refl
after_ok false true s w c h = on_ok w c h
after_ok false false true w c h = from_ok c
after_ok false false false w c h = refl

pub step_sound : (j : Judge) (c : Cycle) → Sound j → cycle_check j.n c ≡ Ok tt → j.count < most_cycles → Sound (next_judge j c)
unfolding next_judge opened_after watch_after
step_sound j c s good room =
    record {
      few = s.few;
      many = s.many;
      room = omega arith;
      previous = good;
      locked = longer_below 1024 j.locked (locked_incr c) s.locked;
      waited = longer_below 17 j.waited (waits c) s.waited;
      size = list_length 0 16 (lost_after j c);
      lost = λ i below. rw (list_at 16 i (lost_after j c) below) (lost_below j s c i below);
      absent = λ i below out. list_at 16 i (lost_after j c) below ∙ lost_absent j s c i below out;
      watch = after_ok (handover c) j.opened (opens c) j.watch c s.watch;
      start = λ e. absurd (omega arith);
    }
