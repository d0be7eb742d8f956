-- How the parts of a step come together, over plain values.
--
--   numbered        == what holds of a state holds of the numbers that stand for it
--   bad             == a tested one that is refused
--   malformed, full == the refusals before the tests
use Rattle.std.specs.Prelude.{Err}
use Prim.Native.Nat.{◌≤◌, ◌<◌}
use mathlib.Core.Path.{◌≡◌, sym, ◌∙◌}
use mathlib.Core.Bool.{Bool, true, false, not}
use borrow.Author.Tests.{le-leb, lt-leb, not-false}
use Rattle.rules.specs.declared.Refusal.{Refusal}
use Rattle.rules.specs.declared.Refusal.TheVariants.{Full, State as StateRefusal}
use Rattle.rules.specs.Results.{Check}
use Rattle.rules.specs.declared.State.{State}
use Rattle.rules.specs.declared.Inputs.{Inputs}
use Rattle.rules.specs.Codes.{most_cycles}
use Rattle.rules.specs.Valid.{inputs_check}
use Rattle.rules.specs.State.{well_formed, WellFormed}
use Rattle.rules.specs.Step.{step_of}
use Rattle.rules.proofs.WellFormed.{test_of}

pub numbered : {s s' : State} → s' ≡ s → WellFormed s → WellFormed s'
numbered e w = rw e w

pub bad : (s : State) (x : Inputs) (c : Check) (r : Refusal) → WellFormed s → s.count < most_cycles → c ≡ inputs_check s.n x → c ≡ Err r
    → Err (r, s) ≡ step_of s x
unfolding step_of
bad s x c r sound room e f =
    let u : inputs_check s.n x ≡ Err r = cc in
    simp (test_of s sound, lt-leb 1000000 s.count room, u)

pub malformed : (s : State) (x : Inputs) (b : Bool) → b ≡ well_formed s → not b ≡ true → Err (StateRefusal, s) ≡ step_of s x
unfolding step_of
malformed s x b e n =
    let u : not (well_formed s) ≡ true = cc in
    rw u

pub sound : (s : State) (b : Bool) → b ≡ well_formed s → not b ≡ false → well_formed s ≡ true
sound s b e n = sym e ∙ not-false b n

pub full : (s : State) (x : Inputs) (b : Bool) → b ≡ well_formed s → not b ≡ false → most_cycles ≤ s.count → Err (Full, s) ≡ step_of s x
unfolding step_of
full s x b e n h = simp (sound s b e n, le-leb 1000000 s.count h)
