-- A step that was read: its time, its bytes, its lines, and its cycle.
--
--   found           == what is known of it
use Rattle.std.specs.Prelude.{Ok, Some}
use Prim.Native.Nat.{ℕ, ◌≤◌, ◌<◌}
use mathlib.Core.Path.{◌≡◌, sym, ◌∙◌, ap}
use mathlib.Core.Bool.{Bool, not, ◌||◌}
use mathlib.Core.List.{List, [], ◌∷◌}
use native.Mathlib.Omega.{arith}
use lib.Dec.{eqb}
use lib.ListN.{length, take}
use Rattle.rules.specs.declared.Cycle.{Cycle}
use Rattle.rules.specs.Codes.{most_cycles}
use Rattle.rules.proofs.Choice.{either}
use Rattle.formats.specs.Columns.{cycle_values}
use Rattle.formats.specs.Promises.{ValidCycle}
use Rattle.waves.specs.Steps.{dump_step}
use Rattle.waves.specs.Reading.{read_step_of}
use Rattle.waves.specs.Files.{lines_in}
use Rattle.waves.proofs.Promises.{read_step_writes}
use Rattle.waves.proofs.Near.{near_next, changed, lines_of_step}

pub record Found (n t : ℕ) (s : List ℕ) (c : Cycle) (next : ℕ) : Type 0 where
  pub time : t < most_cycles
  pub valid : ValidCycle n c
  pub least : 3 ≤ next
  pub most : next ≤ 104
  pub inside : next ≤ length s
  pub lines : lines_in (take next s) ≤ 12

-- no more values change than there are
few_changed : (all : Bool) (vs us : List ℕ) → changed all vs us ≤ length vs
unfolding changed
few_changed all [] us = omega arith
few_changed all (v ∷ vs) [] = omega arith
few_changed all (v ∷ vs) (u ∷ us) =
    let more = few_changed all vs us in
    either (all || not (eqb u v)) (λ e. rw e (omega arith)) (λ e. rw e (omega arith))

pub found : (n t : ℕ) (prev : Cycle) (s : List ℕ) (c : Cycle) (next : ℕ) → read_step_of n t prev s 0 ≡ Ok (Some (c, next)) → Found n t s c next
found n t prev s c next e =
    let r = read_step_writes n t prev s 0 c next e in
    let k = near_next n t prev s c next e in
    let same : next ≡ length (dump_step prev t c) = omega (arith, r.after) in
    let text : take next s ≡ dump_step prev t c = ap (λ i. take i s) same ∙ sym r.bytes in
    record {
      time = r.time;
      valid = r.valid;
      least = k.0;
      most = k.2;
      inside = k.1;
      lines = omega (arith, ap lines_in text, lines_of_step prev t c, few_changed (eqb t 0) (cycle_values prev) (cycle_values c));
    }
